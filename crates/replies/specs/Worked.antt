-- A request over its Cell List.
use Rattle.std.specs.Prelude.{◌≡◌, ℕ, Bool, List, []}
use Rattle.cells.specs.declared.cell.Cell.{Cell}
use Rattle.lists.specs.CellLists.{CellsV}
use Rattle.naming.specs.Namings.{named_by, namings}
use Rattle.rows.specs.declared.row.Row.{Row}
use Rattle.table.specs.Acts.{Acts}
use Rattle.table.specs.Handling.{Stage, stage, handled}
use Rattle.replies.specs.declared.work.Work.{Work}
use Rattle.replies.specs.Lists.{begun_entry, completed_entry, failed_entry, picked}

-- the request after it, the messages of all cells after it, and what came of it
abbrev pub worked : {R : Type 0} → Acts R → List Cell → (ℕ → Bool) → R → List (List Row) → CellsV → Stage R
worked acts cells opened q rows list = handled acts cells opened (stage q rows []) (namings cells (named_by list))

-- the request and the messages are what it came to, and the lists in the memory are picked from its outcomes
pub record Ran {R : Type 0} (cells : List Cell) (s : Stage R) (q : R) (rs : List (List Row)) (w : Work) : Type 0 where
  pub request : q ≡ s.request
  pub rows : rs ≡ s.rows
  pub begun : w.begun ≡ picked (begun_entry cells) s.out
  pub completed : w.completed ≡ picked (completed_entry cells) s.out
  pub failed : w.failed ≡ picked (failed_entry cells) s.out
