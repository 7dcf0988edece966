-- The answers to C, each one number.
use Rattle.std.specs.Prelude.{ℕ, Some, None, Ok, Err, Option, Result}
use Rattle.cbsp.specs.declared.refusal.Refusal.{Refusal}
use Rattle.cbsp.specs.Refusals.{refusal_number}

-- the length of a message is at least 4, so that it is never taken for another answer: framing is refused with 3 alone
abbrev pub framing_number : Result (Option ℕ) Refusal → ℕ
framing_number (Ok None) = 0
framing_number (Ok (Some n)) = n
framing_number (Err e) = refusal_number e

abbrev pub check_number : Result ℕ Refusal → ℕ
check_number (Ok n) = 0
check_number (Err e) = refusal_number e
