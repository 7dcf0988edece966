-- A cell as a Cell List names it.
use Rattle.cells.specs.declared.cell.Cell.{Cell}
use Rattle.lists.specs.declared.kinds.CellEntry.{CellEntry}
use Rattle.replies.specs.Lists.{identity_of}

abbrev pub list_entry : Cell → CellEntry
list_entry c = record { cell = identity_of c }
