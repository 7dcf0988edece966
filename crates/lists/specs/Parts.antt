-- The list elements that messages are made of.
use Rattle.std.specs.Prelude.{List, Option}
use Rattle.elements.specs.Codec.{Codec, element, optional}
use Rattle.lists.specs.Entries.{Entry}
use Rattle.lists.specs.Kinds.{completed_kind, failed_kind}
use Rattle.lists.specs.Lists.{entry_list}
use Rattle.lists.specs.CellLists.{CellsV, cell_list}

-- Cell List
abbrev pub cells : Codec CellsV
cells = element 4 cell_list

abbrev pub may_cells : Codec (Option CellsV)
may_cells = optional 4 cell_list

-- Number of Broadcasts Completed List
abbrev pub completed : Codec (List Entry)
completed = element 8 (entry_list completed_kind)

abbrev pub may_completed : Codec (Option (List Entry))
may_completed = optional 8 (entry_list completed_kind)

-- Failure List
abbrev pub failures : Codec (List Entry)
failures = element 9 (entry_list failed_kind)
