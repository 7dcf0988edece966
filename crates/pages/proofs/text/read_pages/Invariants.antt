use Rattle.std.proofs.Common.{◌≡◌}
use Rattle.pages.proofs.Turns.{SoFar}
use Rattle.pages.proofs.text.read_pages.Given as goal

abbrev pub invariant-loop : goal.invariant-loop
invariant-loop l = SoFar l.fn.reader.octets.now l.fn.reader.at l.count l.counter l.reader.at × (l.reader.octets ≡ l.fn.reader.octets)
