-- What a checked list holds.
use Rattle.std.specs.Prelude.{List}
use Rattle.cells.specs.declared.cell.Cell.{Cell}
use Rattle.cells.specs.declared.list.CellList.{CellList}

abbrev pub cells_of : CellList → List Cell
cells_of list = list.cells
