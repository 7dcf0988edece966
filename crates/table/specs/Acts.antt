-- A kind of request, by what it does in one cell.
use Rattle.std.specs.Prelude.{List}
use Rattle.rows.specs.declared.row.Row.{Row}
use Rattle.table.specs.declared.outcome.Outcome.{Outcome}
use Rattle.table.specs.Settings.{Setting}

-- what comes of it, the messages of all cells after it, and the request itself after it
pub record Acts (R : Type 0) : Type 0 where
  pub answer : R → Setting → Outcome
  pub leaves : R → Setting → List (List Row)
  pub becomes : R → Setting → R
