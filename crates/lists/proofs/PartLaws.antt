-- The laws of the list elements, by name.
use Rattle.elements.specs.Codec.{Lawful}
use Rattle.elements.proofs.Laws.{lawful_element, lawful_optional}
use Rattle.lists.specs.Kinds.{completed_kind, failed_kind}
use Rattle.lists.specs.Lists.{entry_list}
use Rattle.lists.specs.CellLists.{cell_list}
use Rattle.lists.specs.Parts.{cells, may_cells, completed, may_completed, failures}
use Rattle.lists.proofs.ListLaws.{list_laws}
use Rattle.lists.proofs.CellLaws.{cells_laws}

pub cells_lawful : Lawful cells
cells_lawful = lawful_element 4 cell_list cells_laws

pub may_cells_lawful : Lawful may_cells
may_cells_lawful = lawful_optional 4 cell_list cells_laws

pub completed_lawful : Lawful completed
completed_lawful = lawful_element 8 (entry_list completed_kind) (list_laws completed_kind)

pub may_completed_lawful : Lawful may_completed
may_completed_lawful = lawful_optional 8 (entry_list completed_kind) (list_laws completed_kind)

pub failures_lawful : Lawful failures
failures_lawful = lawful_element 9 (entry_list failed_kind) (list_laws failed_kind)
