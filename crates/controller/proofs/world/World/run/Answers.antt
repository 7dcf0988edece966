use Rattle.controller.specs.Moments.{world_of}
use Rattle.controller.proofs.Running.{ran_next, ran_none}
use Rattle.controller.proofs.world.World.run.Goals as goal

pub loop-call-init : goal.loop-call-init
loop-call-init g c =
    ran_none g.S.Site.model g.S.Site.steps g.W.Watcher.tells (world_of c.args.self.now) (record { marks = c.args.marks.now; space = c.args.space.now }) c.args.watcher.now

pub loop-call-preserved : goal.loop-call-preserved
loop-call-preserved g c =
    let h = c.step-report.ensures in
    ran_next g.S.Site.model g.S.Site.steps g.W.Watcher.tells _ _ _ _ c.loop-call.call-index c.len.result c.args.calls.now (world_of c.args.self.now)
    (world_of c.loop-call.self) (world_of c.step-report.new.self) (record { marks = c.args.marks.now; space = c.args.space.now })
    (record { marks = c.loop-call.marks; space = c.loop-call.space }) (record { marks = c.step-report.new.marks; space = c.step-report.new.space })
    c.args.watcher.now c.loop-call.watcher c.tell.new.self c.step-report.result
    c.loop-call.auto.marks c.loop-call.auto.space c.loop-call-test.true c.loop-call.invariant h.stepped h.space h.marks c.len.ensures c.tell.ensures
