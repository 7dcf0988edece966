use Rattle.std.proofs.Common.{map, refl, sym, ◌∙◌}
use Rattle.rows.specs.Held.{rows_of}
use Rattle.table.specs.Pool.{free_slot}
use Rattle.table.proofs.Searching.{free_here, none_left, used_here}
use Rattle.table.proofs.pool.Search.free_slot.Goals as goal

pub loop-slot-init : goal.loop-slot-init
unfolding free_slot
loop-slot-init c = (c.requires, refl)

pub returns-then-not-is_used-clause-value : goal.returns-then-not-is_used-clause-value
returns-then-not-is_used-clause-value c =
    sym (c.loop-slot.invariant.1 ∙ free_here (map rows_of c.args.cells.now) c.loop-slot.slot c.loop-slot-test.true (sym c.if-not-is_used.ensures.value))

pub loop-slot-preserved : goal.loop-slot-preserved
loop-slot-preserved c =
    (c.is_used.ensures.passed, c.loop-slot.invariant.1 ∙ used_here (map rows_of c.args.cells.now) c.loop-slot.slot c.loop-slot-test.true (sym c.if-not-is_used.ensures.value))

pub returns-clause-value : goal.returns-clause-value
returns-clause-value c = sym (c.loop-slot.invariant.1 ∙ none_left (map rows_of c.args.cells.now) c.loop-slot.slot c.loop-slot-test.false)
