-- A period over a frame site, from its calls to its memory.
use Rattle.std.proofs.Common.{ℕ, Bool, List, [], ◌∷◌, ◌∙◌, arith}
use Rattle.frame.specs.declared.frame_site.FrameSite.{FrameSite}
use Rattle.frame.specs.Frame.{frame_model, Steps}
use Rattle.frame.specs.Frames.{WithinPeriod, Written, Ample}
use Rattle.frame.proofs.Packing.{packs}
use Rattle.site.specs.declared.period.Offer.{Offer}
use Rattle.site.specs.Period.{events, Period}
use Rattle.frame.specs.Framed.{Framed}

only_offers : (os : List Offer) (rs : List Bool) → WithinPeriod (events os rs)
unfolding WithinPeriod events
only_offers [] rs = tt
only_offers (o ∷ os) [] = tt
only_offers (o ∷ os) (r ∷ rs) = only_offers os rs

module _ (s t : FrameSite) (os : List Offer) (n : ℕ) (p : Period frame_model Steps s os n t) where
  fresh : Ample p.begun
  fresh = let i = p.start.itself in omega (arith, i.used, i.left)

  written : Written p.begun (events os p.served.offers.answers) t
  written = packs p.begun t (events os p.served.offers.answers) fresh (only_offers os p.served.offers.answers) p.served.offers.chain

  pub framed : Framed s os n t
  framed =
      let w = written in
      let i = p.start.itself in
      record { period = p; lender = w.lender ∙ i.lender; memory = cc }
