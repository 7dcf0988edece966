-- What a request finds when it comes to a cell.
use Rattle.std.specs.Prelude.{ℕ, Bool, List, [], Some, None, Option, slice_index_or, slice_set}
use Rattle.cells.specs.declared.cell.Capability.{Capability}
use Rattle.rows.specs.declared.row.Row.{Row}

-- the messages of all cells, the cell's number, its capability, and whether it is open at the site
pub record Setting : Type 0 where
  pub rows : List (List Row)
  pub cell : ℕ
  pub capability : Capability
  pub opened : Bool

abbrev pub setting : List (List Row) → ℕ → Capability → Bool → Setting
setting rows cell capability opened = record { rows = rows; cell = cell; capability = capability; opened = opened }

-- the messages of the cell
abbrev pub here : Setting → List Row
here s = slice_index_or s.rows s.cell []

-- the messages of all cells, with others in this one
abbrev pub replaced : Setting → List Row → List (List Row)
replaced s rs = slice_set s.rows s.cell rs

-- the count of a message that was found
abbrev pub count_of : Option Row → Option ℕ
count_of None = None
count_of (Some r) = Some r.count
