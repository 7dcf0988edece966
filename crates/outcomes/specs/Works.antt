-- Each request over its Cell List, from the messages of all cells: the request after it, the messages after it, and what came of it.
use Rattle.std.specs.Prelude.{ℕ, Bool, List, None}
use Rattle.cells.specs.declared.cell.Cell.{Cell}
use Rattle.lists.specs.CellLists.{CellsV}
use Rattle.replies.specs.Worked.{worked}
use Rattle.rows.specs.declared.key.Key.{Key}
use Rattle.rows.specs.declared.row.Row.{Row}
use Rattle.table.specs.declared.asked.Asked.{Asked}
use Rattle.table.specs.declared.references.Kill.{Kill}
use Rattle.table.specs.declared.references.Query.{Query}
use Rattle.table.specs.declared.references.Reset.{Reset}
use Rattle.table.specs.declared.write.Write.{Write}
use Rattle.table.specs.Handling.{Stage}
use Rattle.table.specs.References.{kill_acts, query_acts, reset_acts}
use Rattle.table.specs.Write.{write_acts}

-- the cells of a table, and which of them are open at the site
module _ (cells : List Cell) (opened : ℕ → Bool) where
  abbrev pub kill_work : Key → List (List Row) → CellsV → Stage Kill
  kill_work key rows list = worked kill_acts cells opened (record { key = key }) rows list

  abbrev pub query_work : Key → List (List Row) → CellsV → Stage Query
  query_work key rows list = worked query_acts cells opened (record { key = key }) rows list

  abbrev pub reset_work : List (List Row) → CellsV → Stage Reset
  reset_work rows list = worked reset_acts cells opened (record {}) rows list

  abbrev pub write_work : Asked → List (List Row) → CellsV → Stage Write
  write_work q rows list = worked write_acts cells opened (record { asked = q; slot = None }) rows list
