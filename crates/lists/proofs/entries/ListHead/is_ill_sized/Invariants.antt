use Rattle.std.proofs.Common.{◌≡◌, ◌≤◌, ◌-◌, length}
use Rattle.lists.specs.Forms.{form_number}
use Rattle.lists.specs.Sizes.{ill_sized}
use Rattle.lists.proofs.entries.ListHead.is_ill_sized.Given as goal

abbrev pub invariant-loop : goal.invariant-loop
invariant-loop g l =
    (ill_sized g.E.ListEntry.kind (form_number l.self.form) (length l.reader.octets.now) l.reader.octets.now (g.E.ListEntry.kind.most - l.counter) l.rest.at
    ≡ ill_sized g.E.ListEntry.kind (form_number l.self.form) (length l.reader.octets.now) l.reader.octets.now g.E.ListEntry.kind.most l.reader.at)
    × (l.counter ≤ g.E.ListEntry.kind.most) × (l.rest.octets ≡ l.reader.octets)
