-- How many octets a list has after its length, where it can be spelt.
use Rattle.std.specs.Prelude.{ℕ, cond, List, length, Some, None, Option}
use Rattle.lists.specs.Entries.{Entry, Kind}
use Rattle.lists.specs.Lists.{list_octets, list_fits}
use Rattle.lists.specs.CellLists.{CellsV, cells_octets, cells_fit}

abbrev pub list_width : Kind → List Entry → Option ℕ
list_width k es = cond (list_fits k es) (Some (length (list_octets k es))) None

abbrev pub cells_width : CellsV → Option ℕ
cells_width v = cond (cells_fit v) (Some (length (cells_octets v))) None
