-- The times of a Keep Alive Repetition Period.
use Rattle.std.specs.Prelude.{◌≡◌, ℕ, ◌+◌, ◌-◌, ◌<◌, cond, List, [], ◌∷◌, length, Some, None, Option, ◌==◌, nat_le, nat_lt, slice_index}

-- the seconds of the codes from 1 on
abbrev pub times : List ℕ
times =
    1 ∷ 2 ∷ 3 ∷ 4 ∷ 5 ∷ 6 ∷ 7 ∷ 8 ∷ 9 ∷ 10 ∷ 12 ∷ 14 ∷ 16 ∷ 18 ∷ 20 ∷ 22 ∷ 24 ∷ 26 ∷ 28 ∷ 30 ∷ 35 ∷ 40 ∷ 45 ∷ 50 ∷ 55 ∷ 60 ∷ 65 ∷ 70 ∷ 75 ∷ 80
    ∷ 85 ∷ 90 ∷ 95 ∷ 100 ∷ 105 ∷ 110 ∷ 115 ∷ 120 ∷ []

-- the seconds of a code, nothing where the table has no such code
abbrev pub seconds_of : ℕ → Option ℕ
seconds_of c = cond (c == 0) None (cond (nat_lt (c - 1) 38) (Some (slice_index times (c - 1))) None)

-- by how many seconds a code lies above the code before it
abbrev pub step : ℕ → ℕ
step c = cond (nat_le c 10) 1 (cond (nat_le c 20) 2 5)

-- the rule of the table: each code's time is a step above that of the code before it, and code 1 is a step above 0 seconds
abbrev pub Stepped : Type 0
Stepped = (k : ℕ) → k < length times → slice_index times k ≡ slice_index (0 ∷ times) k + step (k + 1)

-- where the steps change, and the last code
pub record Edges : Type 0 where
  pub code_11 : seconds_of 11 ≡ Some 12
  pub code_20 : seconds_of 20 ≡ Some 30
  pub code_21 : seconds_of 21 ≡ Some 35
  pub code_38 : seconds_of 38 ≡ Some 120
