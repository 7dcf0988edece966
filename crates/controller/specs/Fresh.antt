-- A table just made.
use Rattle.std.specs.Prelude.{false, List, [], map, replicate, None}
use Rattle.cells.specs.declared.cell.Cell.{Cell}
use Rattle.rows.specs.Texts.{no_text}
use Rattle.law.specs.State.{State}

-- no message in any cell, nothing in any of the 32 contents, no opening, no period, no KEEP-ALIVE
abbrev pub fresh_state : List Cell → State
fresh_state cells =
    record {
      cells = cells;
      rows = map (λ _. []) cells;
      texts = replicate 32 no_text;
      openings = 0;
      announced = false;
      ever = false;
      periods = 0;
      alive = None;
    }
