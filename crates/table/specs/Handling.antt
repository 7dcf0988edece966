-- A request over what a Cell List came to.
use Rattle.std.specs.Prelude.{ℕ, Bool, List, [], ◌∷◌, ◌++◌, fold, slice_index_or}
use Rattle.cells.specs.declared.cell.Capability.{Capability}
use Rattle.cells.specs.declared.cell.Capability.TheVariants.{NoChannel}
use Rattle.cells.specs.declared.cell.Cell.{Cell}
use Rattle.naming.specs.declared.naming.Naming.{Naming}
use Rattle.naming.specs.declared.naming.Naming.TheVariants as naming
use Rattle.rows.specs.declared.row.Row.{Row}
use Rattle.table.specs.declared.outcome.Outcome.{Outcome}
use Rattle.table.specs.Acts.{Acts}
use Rattle.table.specs.Outcomes.{no_cell}
use Rattle.table.specs.Settings.{Setting, setting}

-- the capability of a cell by its number; past the list, none
abbrev pub capability_at : List Cell → ℕ → Capability
capability_at cs k = (slice_index_or cs k (record { identity = record { lac = 0; ci = 0 }; capability = NoChannel })).capability

-- the request, the messages of all cells, and what came of it so far
pub record Stage (R : Type 0) : Type 0 where
  pub request : R
  pub rows : List (List Row)
  pub out : List Outcome

abbrev pub stage : {R : Type 0} → R → List (List Row) → List Outcome → Stage R
stage q rows out = record { request = q; rows = rows; out = out }

-- a kind of request, by what it does in one cell
module _ {R : Type 0} (acts : Acts R) (cells : List Cell) (opened : ℕ → Bool) where
  abbrev pub setting_at : List (List Row) → ℕ → Setting
  setting_at rows k = setting rows k (capability_at cells k) (opened k)

  -- an entry that names no cell fails, and does nothing
  abbrev pub comes_of : R → List (List Row) → Naming → Outcome
  comes_of q rows (naming.Cell k) = acts.answer q (setting_at rows k)
  comes_of q rows (naming.NoCell e) = no_cell e

  abbrev pub rows_on : R → List (List Row) → Naming → List (List Row)
  rows_on q rows (naming.Cell k) = acts.leaves q (setting_at rows k)
  rows_on q rows (naming.NoCell e) = rows

  abbrev pub request_on : R → List (List Row) → Naming → R
  request_on q rows (naming.Cell k) = acts.becomes q (setting_at rows k)
  request_on q rows (naming.NoCell e) = q

  abbrev pub step_on : Stage R → Naming → Stage R
  step_on s n =
      record {
        request = request_on s.request s.rows n;
        rows = rows_on s.request s.rows n;
        out = s.out ++ comes_of s.request s.rows n ∷ [];
      }

  -- one naming after the other
  abbrev pub handled : Stage R → List Naming → Stage R
  handled s ns = fold step_on s ns
