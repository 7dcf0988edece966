-- Marks of cells that are named already: an octet for each, 0 where it is not.
use Rattle.std.specs.Prelude.{ℕ, ◌+◌, Bool, cond, ◌&&◌, List, [], ◌∷◌, length, ◌==◌, nat_lt, slice_index}

abbrev pub is_clear : List ℕ → ℕ → Bool
is_clear ms k = nat_lt k (length ms) && slice_index ms k == 0

-- how many cells are not named yet
abbrev pub clear_marks : List ℕ → ℕ
clear_marks [] = 0
clear_marks (m ∷ ms) = cond (m == 0) 1 0 + clear_marks ms
