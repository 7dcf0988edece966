use Rattle.std.proofs.Common.{◌≡◌, take}
use Rattle.cells.specs.Held.{cells_of}
use Rattle.cells.proofs.list.CellList.copy.Given as goal

abbrev pub invariant-loop-cell : goal.invariant-loop-cell
invariant-loop-cell l = l.cells ≡ take l.cell-index (cells_of l.self)
