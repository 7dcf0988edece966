-- Octets read as the cases of a kind.
use Rattle.std.specs.Prelude.{ℕ, Some, None, Ok, Err, Option, Result}
use Rattle.cbsp.specs.declared.code.UnknownCode.{UnknownCode}

-- the case that an octet stands for, or that it stands for none
abbrev pub known : {T : Type 0} → ℕ → Option T → Result T UnknownCode
known o (Some v) = Ok v
known o None = Err (record { 0 = o })

abbrev pub decoded : {T : Type 0} → (ℕ → Option T) → ℕ → Result T UnknownCode
decoded of o = known o (of o)
