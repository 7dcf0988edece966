-- What came of a request over a list, told cell by cell: each cell at most once, and by its outcome alone.
use Rattle.std.specs.Prelude.{◌≡◌, ℕ, ◌+◌, ◌<◌, ◌≤◌, Bool, false, cond, List, [], ◌∷◌, ◌++◌, length, Some, None, Option, ◌==◌, slice_index_or}
use Rattle.cells.specs.declared.cell.Cell.{Cell}
use Rattle.elements.specs.declared.cause.Cause.{Cause}
use Rattle.lists.specs.CellLists.{CellsV}
use Rattle.naming.specs.declared.naming.Naming.{Naming}
use Rattle.naming.specs.declared.naming.Naming.TheVariants as naming
use Rattle.naming.specs.Names.{names}
use Rattle.naming.specs.Namings.{named_by}
use Rattle.rows.specs.declared.key.Key.{Key}
use Rattle.rows.specs.declared.row.Row.{Row}
use Rattle.rows.specs.Keys.{is_same, first_of, without}
use Rattle.table.specs.declared.asked.Asked.{Asked}
use Rattle.table.specs.declared.outcome.Outcome.{Outcome}
use Rattle.table.specs.Outcomes.{no_cell}
use Rattle.table.specs.Write.{key_in, row_of}
use Rattle.outcomes.specs.Works.{kill_work, query_work, reset_work, write_work}

-- whether an outcome is of the cell with a number
abbrev pub is_of : ℕ → Naming → Bool
is_of k (naming.Cell j) = k == j
is_of k (naming.NoCell e) = false

-- what came of it in a cell, nothing where the cell was not named
abbrev pub outcome_at : ℕ → List Outcome → Option Outcome
outcome_at k [] = None
outcome_at k (o ∷ os) = cond (is_of k o.whom) (Some o) (outcome_at k os)

-- an outcome of a cell is of one that is there and has no other; one of an entry is of one that names no cell
abbrev pub SoundFor : List Cell → Outcome → List Outcome → Naming → Type 0
SoundFor cells o os (naming.Cell k) = (k < length cells) × (outcome_at k os ≡ None)
SoundFor cells o os (naming.NoCell e) = (o ≡ no_cell e) × (names cells e ≡ [])

abbrev pub Sound : List Cell → Outcome → List Outcome → Type 0
Sound cells o os = SoundFor cells o os o.whom

abbrev pub AllSound : List Cell → List Outcome → Type 0
AllSound cells [] = Unit {0}
AllSound cells (o ∷ os) = Sound cells o os × AllSound cells os

-- how many of the outcomes are of cells
abbrev pub of_cell : Naming → ℕ
of_cell (naming.Cell k) = 1
of_cell (naming.NoCell e) = 0

abbrev pub cell_count : List Outcome → ℕ
cell_count [] = 0
cell_count (o ∷ os) = of_cell o.whom + cell_count os

-- what an outcome says of the messages of its cell; a cell without an outcome keeps its messages
abbrev pub By : (Outcome → List Row → List Row → Type 0) → Option Outcome → List Row → List Row → Type 0
By E None rs rs' = rs' ≡ rs
By E (Some o) rs rs' = E o rs rs'

-- the messages of all cells went from `rows` to `rows'` as the outcomes say
pub record Tells (cells : List Cell) (list : CellsV) (E : Outcome → List Row → List Row → Type 0) (rows rows' : List (List Row)) (out : List Outcome) : Type 0 where
  pub sound : AllSound cells out
  pub cell : (k : ℕ) → By E (outcome_at k out) (slice_index_or rows k []) (slice_index_or rows' k [])
  pub long : length rows' ≡ length rows
  pub cells_few : length cells ≤ 64 → cell_count out ≤ 64
  pub few : length cells ≤ 64 → length (named_by list) ≤ 128 → length out ≤ 192
  -- where the list has an entry, something came of it
  pub some : length cells ≤ 64 → 0 < length (named_by list) → 0 < length out

-- the messages of a cell once the one that passes ended, if one did
abbrev pub cut_by : (Row → Bool) → Option ℕ → List Row → List Row
cut_by test None rs = rs
cut_by test (Some n) rs = without test rs

-- a message that ended was there, with that count
pub record Cut (test : Row → Bool) (ended : Option ℕ) (rs rs' : List Row) : Type 0 where
  pub rows : rs' ≡ cut_by test ended rs
  pub honest : (n : ℕ) → ended ≡ Some n → (r : Row) × (first_of test rs ≡ Some r) × (r.count ≡ n)

-- the messages of a cell once the new one began, if it did
abbrev pub grown_by : Row → Option Cause → List Row → List Row
grown_by new None rs = rs ++ new ∷ []
grown_by new (Some c) rs = rs

-- the old message of a WRITE-REPLACE, if one was given
abbrev pub is_old_of : Asked → Option ℕ → Row → Bool
is_old_of q None r = false
is_old_of q (Some serial) r = is_same (key_in q serial) r

abbrev pub is_old : Asked → Row → Bool
is_old q r = is_old_of q q.old r

-- the old message ended, and then the new one began
pub record Begun (q : Asked) (o : Outcome) (rs rs' : List Row) : Type 0 where
  pub slot : ℕ
  pub between : List Row
  pub cut : Cut (is_old q) o.ended rs between
  pub grown : rs' ≡ grown_by (row_of q slot) o.cause between
  pub few : length rs ≤ 8 → length rs' ≤ 8

-- KILL ends the message
pub record Killed (key : Key) (o : Outcome) (rs rs' : List Row) : Type 0 where
  pub cut : Cut (is_same key) o.ended rs rs'

-- RESET empties the cell, and does not fail
pub record Emptied (o : Outcome) (rs rs' : List Row) : Type 0 where
  pub rows : rs' ≡ []
  pub cause : o.cause ≡ None
  pub ended : o.ended ≡ None

-- a query leaves the messages
abbrev pub Left : Outcome → List Row → List Row → Type 0
Left o rs rs' = rs' ≡ rs

-- whatever the cells, the site, the messages and the list
pub record OutcomesTell : Type 0 where
  pub kill : (cells : List Cell) (opened : ℕ → Bool) (key : Key) (rows : List (List Row)) (list : CellsV) → length rows ≡ length cells
      → Tells cells list (Killed key) rows (kill_work cells opened key rows list).rows (kill_work cells opened key rows list).out
  pub query : (cells : List Cell) (opened : ℕ → Bool) (key : Key) (rows : List (List Row)) (list : CellsV) → length rows ≡ length cells
      → Tells cells list Left rows (query_work cells opened key rows list).rows (query_work cells opened key rows list).out
  pub reset : (cells : List Cell) (opened : ℕ → Bool) (rows : List (List Row)) (list : CellsV) → length rows ≡ length cells
      → Tells cells list Emptied rows (reset_work cells opened rows list).rows (reset_work cells opened rows list).out
  pub write : (cells : List Cell) (opened : ℕ → Bool) (q : Asked) (rows : List (List Row)) (list : CellsV) → length rows ≡ length cells
      → Tells cells list (Begun q) rows (write_work cells opened q rows list).rows (write_work cells opened q rows list).out
