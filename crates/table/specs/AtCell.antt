-- The messages of one cell among those of all.
use Rattle.std.specs.Prelude.{ℕ, List, [], map, slice_index_or, slice_set}
use Rattle.rows.specs.declared.row.Row.{Row}
use Rattle.rows.specs.declared.rows.Rows.{Rows}
use Rattle.rows.specs.Held.{rows_of}

abbrev pub rows_at : List Rows → ℕ → List Row
rows_at cs k = slice_index_or (map rows_of cs) k []

-- the messages of all cells, with others in that one
abbrev pub with_rows : List Rows → ℕ → List Row → List (List Row)
with_rows cs k rs = slice_set (map rows_of cs) k rs
