use Rattle.lists.proofs.ListLaws.{list_laws}
use Rattle.lists.proofs.CellLaws.{cells_laws}
use Rattle.lists.proofs.laws.lists_round_trip.Goals as goal

pub returns : goal.returns
returns c = (list_laws, cells_laws)
