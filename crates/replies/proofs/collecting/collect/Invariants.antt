use Rattle.std.proofs.Common.{◌≡◌, ◌≤◌, ◌++◌, drop, length}
use Rattle.replies.specs.Lists.{picked}
use Rattle.replies.proofs.collecting.collect.Given as goal

abbrev pub invariant-loop-outcome : goal.invariant-loop-outcome
invariant-loop-outcome g l =
    (l.out ++ picked (g.E.OutcomeEntry.entry l.cells) (drop l.outcome-index l.outcomes) ≡ picked (g.E.OutcomeEntry.entry l.cells) l.outcomes)
    × (length l.out ≤ l.outcome-index)
