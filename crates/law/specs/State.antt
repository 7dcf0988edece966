-- What a table holds.
use Rattle.std.specs.Prelude.{ℕ, Bool, List, [], Option, slice_index_or}
use Rattle.cells.specs.declared.cell.Cell.{Cell}
use Rattle.rows.specs.declared.row.Row.{Row}
use Rattle.rows.specs.Texts.{Text}

-- the last KEEP-ALIVE: the seconds of its code, and the periods that were made before it
pub record Alive : Type 0 where
  pub seconds : ℕ
  pub since : ℕ

pub record State : Type 0 where
  pub cells : List Cell
  -- the messages of each cell, the oldest first
  pub rows : List (List Row)
  -- what the 32 contents say
  pub texts : List Text
  -- the openings made; the link of the last one is current
  pub openings : ℕ
  pub announced : Bool
  -- whether it was announced at any time
  pub ever : Bool
  pub periods : ℕ
  pub alive : Option Alive

-- the messages of a cell
abbrev pub rows_at : State → ℕ → List Row
rows_at t k = slice_index_or t.rows k []

-- the same table with other messages and contents
abbrev pub with_rows : State → List (List Row) → List Text → State
with_rows t rows texts =
    record {
      cells = t.cells;
      rows = rows;
      texts = texts;
      openings = t.openings;
      announced = t.announced;
      ever = t.ever;
      periods = t.periods;
      alive = t.alive;
    }

-- with another state of its link
abbrev pub with_link : State → ℕ → Bool → Bool → State
with_link t openings announced ever =
    record {
      cells = t.cells;
      rows = t.rows;
      texts = t.texts;
      openings = openings;
      announced = announced;
      ever = ever;
      periods = t.periods;
      alive = t.alive;
    }

-- with another last KEEP-ALIVE
abbrev pub with_alive : State → Option Alive → State
with_alive t alive =
    record {
      cells = t.cells;
      rows = t.rows;
      texts = t.texts;
      openings = t.openings;
      announced = t.announced;
      ever = t.ever;
      periods = t.periods;
      alive = alive;
    }

-- after one period more
abbrev pub with_period : State → List (List Row) → ℕ → State
with_period t rows periods =
    record {
      cells = t.cells;
      rows = rows;
      texts = t.texts;
      openings = t.openings;
      announced = t.announced;
      ever = t.ever;
      periods = periods;
      alive = t.alive;
    }
