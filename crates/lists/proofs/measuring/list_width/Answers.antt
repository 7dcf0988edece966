use Rattle.std.proofs.Common.{sym, arith}
use Rattle.lists.proofs.Widths.{measured_more}
use Rattle.lists.proofs.measuring.list_width.Goals as goal

pub loop-entry-preserved : goal.loop-entry-preserved
loop-entry-preserved g c = (
  tt,
  tt,
  measured_more g.E.ListEntry.kind _ _ _ _ _ _ _ c.in-Some.ensures.steps.0 c.loop-entry.invariant.2 c.in_ok-room.room c.entry_width-total.result (omega (arith, c.in_ok-room.ensures.1))
      (sym c.if-not-entry_fits.ensures) c.entry_width-total.ensures.value c.entry_width-total.ensures.small,
)
