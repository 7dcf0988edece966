use Rattle.std.proofs.Common.{refl, ◌∙◌}
use Rattle.elements.proofs.Progress.{progress_none, progress_more}
use Rattle.lists.specs.Entries.{spell_entry}
use Rattle.lists.specs.Listed.{listed}
use Rattle.lists.proofs.writing.put_entries.Goals as goal

pub loop-entry-init : goal.loop-entry-init
loop-entry-init g c = (
  tt,
  tt,
  refl,
  rw c.into_iter-entry-iterator.ensures.into_iter_gives
      (progress_none (spell_entry g.E.ListEntry.kind) (listed g.E.ListEntry.kind g.E.ListEntry.meant c.args.entries) c.args.writer.now.at c.args.writer.now.out.now),
)

pub loop-entry-preserved : goal.loop-entry-preserved
loop-entry-preserved g c = (
  tt,
  tt,
  c.put_entry.ensures.lender ∙ c.loop-entry.invariant.2,
  progress_more (spell_entry g.E.ListEntry.kind) _ _ _ _ _ _ _ _ c.in-Some.ensures.steps.0 c.loop-entry.invariant.3 _ _ c.requires
      (record { octets = c.put_entry.ensures.octets; place = c.put_entry.ensures.place }),
)
