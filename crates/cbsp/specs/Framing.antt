-- Framing: a header of a type octet and three octets of length, the most significant first, and so many octets behind it.
use Rattle.std.specs.Prelude.{ℕ, ◌+◌, ◌*◌, ◌≤◌, cond, List, length, Some, None, Ok, Err, Option, Result, nat_lt, slice_index}
use Rattle.cbsp.specs.declared.refusal.Refusal.{Refusal}
use Rattle.cbsp.specs.declared.refusal.Refusal.TheVariants.{MessageTooLong}

-- the whole length that a header of four octets announces
abbrev pub announced : List ℕ → ℕ
announced os = 4 + (slice_index os 1 * 65536 + slice_index os 2 * 256 + slice_index os 3)

-- the length of the first message: refused by its header alone where that announces more than 2,048 octets,
-- nothing while octets of it are still to come
abbrev pub first_length : List ℕ → Result (Option ℕ) Refusal
first_length os =
    cond (nat_lt (length os) 4) (Ok None)
    (cond (nat_lt 2048 (announced os)) (Err MessageTooLong)
    (cond (nat_lt (length os) (announced os)) (Ok None) (Ok (Some (announced os)))))

-- a length that is answered is that of a header at least, and lies within the octets
abbrev pub WithinFrame : List ℕ → Result (Option ℕ) Refusal → Type 0
WithinFrame os (Ok None) = Unit {0}
WithinFrame os (Ok (Some n)) = (4 ≤ n) × (n ≤ length os) × (n ≤ 2048)
WithinFrame os (Err e) = Unit {0}
