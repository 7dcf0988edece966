use Rattle.std.proofs.Common.{[], None, lit<, refl}
use Rattle.law.specs.Calls.Call.{shutting}
use Rattle.controller.specs.Moments.{world_of}
use Rattle.controller.proofs.Places.{is_there}
use Rattle.controller.proofs.Stepping.{done_step}
use Rattle.controller.proofs.world.World.shut.Goals as goal

pub returns : goal.returns
returns g c =
    λ space.
    let h = c.shut.ensures (g.S.Site.model c.args.self.now.site).opened in
    done_step g.S.Site.model g.S.Site.steps (shutting c.args.number) (world_of c.args.self.now) _ (record { len = 0; fault = None }) [] [] space refl refl (λ k. lit< tt)
    (is_there c.in-Some.link _ c.in-Some.ensures.kind) (rw (← c.in-Some.ensures.number) h) refl c.in-Some.ensures.kinds
