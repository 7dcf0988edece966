use Rattle.std.proofs.Common.{length, map, take}
use Rattle.controller.specs.Moments.{meant, world_of}
use Rattle.controller.specs.Runs.{Ran}
use Rattle.controller.proofs.world.World.run.Given as goal

abbrev pub invariant-loop-call : goal.invariant-loop-call
invariant-loop-call g l =
    Ran g.S.Site.model g.S.Site.steps g.W.Watcher.tells (map (meant (length l.initial.marks) (length l.initial.space)) (take l.call-index l.calls))
    (world_of l.initial.self) (world_of l.self) (record { marks = l.initial.marks; space = l.initial.space }) (record { marks = l.marks; space = l.space }) l.initial.watcher l.watcher
