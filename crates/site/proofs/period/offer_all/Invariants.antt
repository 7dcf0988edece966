use Rattle.std.proofs.Common.{◌≤◌, take}
use Rattle.site.specs.Events.{Goes}
use Rattle.site.specs.Period.{Offers}
use Rattle.site.proofs.period.offer_all.Given as goal

abbrev pub invariant-loop-offer : goal.invariant-loop-offer
invariant-loop-offer g l =
    Offers (Goes g.S.Site.model g.S.Site.steps) l.initial.site (take l.offer-index l.offers) l.done l.site
    × (l.done ≤ l.offer-index)
