use Rattle.cells.proofs.Identities.{apart}
use Rattle.cells.proofs.list.CellList.cells.Goals as goal

pub returns-clause-apart : goal.returns-clause-apart
returns-clause-apart c = rw c.as_slice.ensures.value (apart _ c.args.self.now.distinct)
