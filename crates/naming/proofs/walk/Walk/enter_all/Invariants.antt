use Rattle.std.proofs.Common.{◌≡◌, ◌+◌, ◌≤◌, length, fold}
use Rattle.lists.specs.Kinds.{cell_kind, cell_meant}
use Rattle.lists.specs.Listed.{listed}
use Rattle.naming.specs.Namings.{at_most, entered, identities_of}
use Rattle.naming.specs.Walks.{SameLoans, stage_of}
use Rattle.naming.proofs.walk.Walk.enter_all.Given as goal

abbrev pub invariant-loop-given : goal.invariant-loop-given
invariant-loop-given l =
    (goal.iterator-loop-given).can_next l.given-iterator
    × (goal.iterator-loop-given).is_finite l.given-iterator
    × (fold (entered l.cells) (stage_of l.self) (identities_of (listed cell_kind cell_meant l.given-iterator))
    ≡ fold (entered l.cells) (stage_of l.initial.self) (identities_of (listed cell_kind cell_meant l.initial.given-iterator)))
    × (at_most (stage_of l.self) + length (identities_of (listed cell_kind cell_meant l.given-iterator)) ≤ 192)
    × SameLoans l.initial.self l.self
