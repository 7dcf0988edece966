-- What a period leaves in the memory of a frame site.
use Rattle.std.specs.Prelude.{◌≡◌, ℕ, List}
use Rattle.site.specs.Model.{New}
use Rattle.frame.specs.declared.frame_site.FrameSite.{FrameSite}
use Rattle.frame.specs.Frame.{frame_model, Steps}
use Rattle.frame.specs.Frames.{frames_of, behind}
use Rattle.site.specs.declared.period.Offer.{Offer}
use Rattle.site.specs.Period.{events, Period}

-- the broadcasts that the period did stand from the first octet on, one behind the other; all other octets stay
pub record Framed (s : FrameSite) (os : List Offer) (n : ℕ) (t : FrameSite) : Type 0 where
  pub period : Period frame_model Steps s os n t
  pub lender : t.memory.ghost_name ≡ s.memory.ghost_name
  pub memory : t.memory.now ≡ behind 0 (frames_of (events os period.served.offers.answers)) s.memory.now

-- the same of a new site on lent memory
pub record FirstFramed (os : List Offer) (n : ℕ) (before after : List ℕ) : Type 0 where
  pub site : FrameSite
  pub fresh : New (frame_model site)
  pub lent : site.memory.now ≡ before
  pub last : FrameSite
  pub framed : Framed site os n last
  pub left : after ≡ last.memory.now
