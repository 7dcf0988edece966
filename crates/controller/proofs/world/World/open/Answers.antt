use Rattle.std.proofs.Common.{[], None, lit<, refl, ap, ◌∙◌, set, ℕ}
use Rattle.law.specs.Calls.Call.{opening}
use Rattle.law.specs.State.{State}
use Rattle.law.specs.Steps.Link.{waiting}
use Rattle.controller.specs.HeldLinks.{kinds_of}
use Rattle.controller.specs.Moments.{world_of}
use Rattle.controller.proofs.Stepping.{done_step, refused_step, same_world}
use Rattle.controller.proofs.world.World.open.Goals as goal

pub returns-in-Ok : goal.returns-in-Ok
returns-in-Ok g c =
    λ space.
    let o = (g.S.Site.model c.args.self.now.site).opened in
    let h = c.in-Ok.ensures.answers o in
    done_step g.S.Site.model g.S.Site.steps opening (world_of c.args.self.now) _ (record { len = 0; fault = None }) [] [] space refl refl (λ k. lit< tt) refl h refl
    (c.put.ensures ∙ ap (λ (n : ℕ). set (kinds_of c.args.self.now.links) n waiting) (c.in-Ok.ensures.number ∙ ap (λ (x : State). x.openings) h.reacted.table))

pub returns-in-Err : goal.returns-in-Err
returns-in-Err g c =
    λ space.
    let h = c.in-Err.ensures.answers (g.S.Site.model c.args.self.now.site).opened in
    refused_step g.S.Site.model g.S.Site.steps opening (world_of c.args.self.now) _ c.in-Err.refusal space (λ k. lit< tt) refl h.reason
    (same_world (world_of c.args.self.now) _ _ h.table refl)
