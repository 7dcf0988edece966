-- The messages of a cell, the oldest first.
use Rattle.std.specs.Prelude.{List}
use Rattle.rows.specs.declared.row.Row.{Row}
use Rattle.rows.specs.declared.rows.Rows.{Rows}

abbrev pub rows_of : Rows → List Row
rows_of r = r.rows
