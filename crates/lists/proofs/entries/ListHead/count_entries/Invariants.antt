use Rattle.std.proofs.Common.{◌≡◌, ◌-◌, ◌≤◌, length}
use Rattle.lists.specs.Entries.{read_entries}
use Rattle.lists.specs.Forms.{form_number}
use Rattle.lists.proofs.From.{SoFar}
use Rattle.lists.proofs.entries.ListHead.count_entries.Given as goal

abbrev pub invariant-loop-rest : goal.invariant-loop-rest
invariant-loop-rest g l =
    let k = g.E.ListEntry.kind in
    let os = l.reader.octets.now in
    (l.rest.octets ≡ l.reader.octets) × (l.rest.at ≤ length os) × (l.count ≤ k.most)
    × SoFar k l.self.broken (form_number l.self.form) (length os) os (read_entries k l.self.broken (form_number l.self.form) (length os) os k.most l.reader.at) k.most l.count l.rest.at

abbrev pub decreases-loop-rest : goal.decreases-loop-rest
decreases-loop-rest g l = length l.rest.octets.now - l.rest.at
