use Rattle.std.proofs.Common.{drop, length, lit<, refl, sym, ap, ◌∙◌}
use Rattle.law.specs.Calls.Call.{announcing}
use Rattle.controller.specs.HeldLinks.{kinds_of}
use Rattle.controller.specs.Links.{waiting_number}
use Rattle.controller.specs.Moments.{world_of}
use Rattle.controller.proofs.Places.{put_again, put_as, waits}
use Rattle.controller.proofs.Stepping.{done_step, reacted_behind, refused_step, same_world}
use Rattle.controller.proofs.world.World.announce.Goals as goal

pub returns-in-Ok-clause-stepped : goal.returns-in-Ok-clause-stepped
returns-in-Ok-clause-stepped g c =
    let e = c.in-Some.ensures in
    let h = c.in-Ok.ensures.answers (g.S.Site.model c.args.self.now.site).opened in
    done_step g.S.Site.model g.S.Site.steps (announcing c.args.number (length c.args.space.now)) (world_of c.args.self.now) _ _ c.args.space.now _ _
    refl refl (λ k. lit< tt) (sym e.some) (rw (← e.number) h) refl
    (put_as (kinds_of c.args.self.now.links) _ _ c.args.number _ _ e.kinds c.put.ensures (c.in-Ok.ensures.link ∙ e.number))

pub returns-in-Err-clause-stepped : goal.returns-in-Err-clause-stepped
returns-in-Err-clause-stepped g c =
    let e = c.in-Some.ensures in
    let h = c.in-Err.ensures.answers (g.S.Site.model c.args.self.now.site).opened in
    refused_step g.S.Site.model g.S.Site.steps (announcing c.args.number (length c.args.space.now)) (world_of c.args.self.now) _ _ _ (λ k. lit< tt)
    (sym e.some) (rw (← e.number) h.reason)
    (same_world (world_of c.args.self.now) _ _ h.table (put_again (kinds_of c.args.self.now.links) _ _ c.args.number _ _ e.kinds c.put-in-Err.ensures (ap waiting_number c.in-Err.ensures.given_back ∙ e.number) (waits _ e.some)))

pub returns-in-Ok-clause-space : goal.returns-in-Ok-clause-space
returns-in-Ok-clause-space g c = reacted_behind _ _ _ c.args.space.now _ (c.in-Ok.ensures.answers (g.S.Site.model c.args.self.now.site).opened).reacted

pub returns-in-Err-clause-space : goal.returns-in-Err-clause-space
returns-in-Err-clause-space g c = ap (drop 0) (c.in-Err.ensures.answers (g.S.Site.model c.args.self.now.site).opened).space
