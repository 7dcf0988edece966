-- How large the counts of a table's messages are.
use Rattle.std.specs.Prelude.{ℕ, ◌≤◌, max, List, [], ◌∷◌, slice_index_or}
use Rattle.rows.specs.declared.row.Row.{Row}

-- the largest count of a cell's messages
abbrev pub peak : List Row → ℕ
peak [] = 0
peak (r ∷ rs) = max r.count (peak rs)

-- no count of any cell is above n
abbrev pub Bounded : ℕ → List (List Row) → Type 0
Bounded n rows = (k : ℕ) → peak (slice_index_or rows k []) ≤ n
