-- A whole message: its type, a length of three octets, its elements, and nothing after them.
use Rattle.std.specs.Prelude.{ℕ, cond, List, ◌∷◌, ◌++◌, length, Ok, Err, Result, nat_lt}
use Rattle.elements.specs.declared.faults.ElementFault.TheVariants.{Unknown}
use Rattle.elements.specs.declared.faults.Fault.{Fault}
use Rattle.elements.specs.Faults.{to_message}
use Rattle.elements.specs.Octets.{then, three}
use Rattle.elements.specs.Codec.{Codec}

abbrev pub ended : {V : Type 0} → List ℕ → V × ℕ → Result V Fault
ended os p = cond (nat_lt p.1 (length os)) (Err (to_message (Unknown p.1))) (Ok p.0)

-- the elements after a header of four octets
abbrev pub read_whole : {V : Type 0} → Codec V → List ℕ → Result V Fault
read_whole c os = then (c.read os 4) (ended os)

-- elements after a header
abbrev pub headed : ℕ → List ℕ → List ℕ
headed t xs = t ∷ (three (length xs) ++ xs)

-- what was read, as a case of a larger type
abbrev pub taken : {V W : Type 0} → (V → W) → Result V Fault → Result W Fault
taken make (Ok v) = Ok (make v)
taken make (Err f) = Err f
