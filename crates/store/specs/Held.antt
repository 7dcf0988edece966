-- What a store holds.
use Rattle.std.specs.Prelude.{List, map, vec_items}
use Rattle.cells.specs.declared.cell.Cell.{Cell}
use Rattle.cells.specs.Held.{cells_of}
use Rattle.rows.specs.declared.row.Row.{Row}
use Rattle.rows.specs.Held.{rows_of}
use Rattle.rows.specs.Texts.{Text, text_of}
use Rattle.store.specs.declared.store.Store.{Store}

abbrev pub cells_held : Store → List Cell
cells_held s = cells_of s.cells

-- the messages of each cell
abbrev pub rows_held : Store → List (List Row)
rows_held s = map rows_of (vec_items s.rows)

-- what the contents say
abbrev pub texts_held : Store → List Text
texts_held s = map text_of (vec_items s.contents)
