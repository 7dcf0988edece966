use Rattle.std.proofs.Common.{arith, rules}
use Rattle.std.proofs.lemmas.List.{take_all}
use Rattle.site.proofs.Counting.{counted}
use Rattle.site.proofs.Offering.{offers_none, offers_more}
use Rattle.site.proofs.period.offer_all.Goals as goal

pub loop-offer-init : goal.loop-offer-init
loop-offer-init g c = (offers_none _ _, omega arith)

pub loop-offer-preserved : goal.loop-offer-preserved
loop-offer-preserved g c =
    (offers_more _ _ _ _ c.args.offers.now c.loop-offer.offer-index _ c.loop-offer.done c.if-broadcast.done c.broadcast.result c.loop-offer-test.true c.loop-offer.invariant.0 c.broadcast.ensures (search rules), search rules)

pub returns : goal.returns
returns g c =
    let o = rw (take_all c.loop-offer.offer-index c.args.offers.now (omega arith)) at c.loop-offer.invariant.0 in
    record { offers = o; counts = λ k h. counted g.S.Site.model g.S.Site.steps _ _ _ k h o.chain }
