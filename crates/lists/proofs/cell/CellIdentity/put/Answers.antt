use Rattle.std.proofs.Common.{◌+◌, ◌≤◌, length, arith}
use Rattle.elements.specs.Octets.{two}
use Rattle.elements.proofs.Appending.{writes_then}
use Rattle.lists.proofs.cell.CellIdentity.put.Goals as goal

pub returns-in-LacCi : goal.returns-in-LacCi
returns-in-LacCi c =
    let room : c.args.writer.now.at + 4 ≤ length c.args.writer.now.out.now = rw c.in-LacCi.is at c.requires in
    rw c.in-LacCi.is (writes_then (two c.in-LacCi.lac) (two c.in-LacCi.ci) _ _ _ (omega arith) c.put_two.ensures c.put_two-in-LacCi.ensures)
