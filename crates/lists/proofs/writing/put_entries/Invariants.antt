use Rattle.std.proofs.Common.{◌≡◌}
use Rattle.elements.proofs.Progress.{Progress}
use Rattle.lists.specs.Entries.{spell_entry}
use Rattle.lists.specs.Listed.{listed}
use Rattle.lists.proofs.writing.put_entries.Given as goal

abbrev pub invariant-loop-entry : goal.invariant-loop-entry
invariant-loop-entry g l =
    (goal.iterator-loop-entry g).can_next l.entry-iterator
    × (goal.iterator-loop-entry g).is_finite l.entry-iterator
    × (l.writer.out.ghost_name ≡ l.initial.writer.out.ghost_name)
    × Progress (spell_entry g.E.ListEntry.kind) (listed g.E.ListEntry.kind g.E.ListEntry.meant l.fn.entries) (listed g.E.ListEntry.kind g.E.ListEntry.meant l.entry-iterator)
    l.fn.writer.at l.fn.writer.out.now l.writer.out.now l.writer.at
