-- A table just made.
use Rattle.std.proofs.Common.{◌≡◌, List, [], map, sym, ap, ◌∙◌, subst}
use Rattle.cells.specs.declared.cell.Cell.{Cell}
use Rattle.rows.specs.declared.row.Row.{Row}
use Rattle.law.proofs.Bounds.{bounded_none}
use Rattle.law.specs.Bound.{Bounded}

abbrev no_rows : List Cell → List (List Row)
no_rows cells = map (λ _. []) cells

pub none_bounded : (rows : List (List Row)) (cells : List Cell) → rows ≡ no_rows cells → Bounded 0 rows
none_bounded rows cells e = subst (Bounded 0) (sym e) (bounded_none 0 cells)

pub none_held : (rows : List (List Row)) (cells own : List Cell) → rows ≡ no_rows cells → own ≡ cells → rows ≡ no_rows own
none_held rows cells own e f = e ∙ ap no_rows (sym f)
