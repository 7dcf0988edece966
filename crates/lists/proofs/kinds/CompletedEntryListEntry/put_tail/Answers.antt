use Rattle.std.proofs.Common.{arith}
use Rattle.elements.specs.Octets.{one, two}
use Rattle.elements.proofs.Appending.{writes_then}
use Rattle.lists.specs.Kinds.{info_code}
use Rattle.lists.proofs.kinds.CompletedEntryListEntry.put_tail.Goals as goal

pub returns : goal.returns
returns c =
    writes_then (two c.args.self.now.count) (one (info_code c.args.self.now.info)) _ _ _ (omega arith) c.put_two.ensures (rw c.from.ensures at c.put_octet.ensures)
