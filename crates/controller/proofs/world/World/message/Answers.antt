use Rattle.std.proofs.Common.{length, refl, sym, arith}
use Rattle.law.specs.Calls.Call.{messaging}
use Rattle.controller.specs.Moments.{world_of}
use Rattle.controller.proofs.Stepping.{done_step, reacted_behind}
use Rattle.controller.proofs.world.World.message.Goals as goal

pub returns-in-Ok-clause-stepped : goal.returns-in-Ok-clause-stepped
returns-in-Ok-clause-stepped g c =
    done_step g.S.Site.model g.S.Site.steps (messaging c.args.number c.args.octets.now (length c.args.marks.now) (length c.args.space.now)) (world_of c.args.self.now) _ c.in-Ok.answered c.args.space.now _ _ refl refl (λ k. omega (arith, c.type_inv.octets k))
    (sym c.in-Some.ensures.some)
    (rw (← c.in-Some.ensures.number) c.in-Ok.ensures.answers) refl refl

pub returns-in-Ok-clause-space : goal.returns-in-Ok-clause-space
returns-in-Ok-clause-space g c = reacted_behind _ _ _ c.args.space.now _ c.in-Ok.ensures.answers.reacted
