-- A period over any site: it is started, and offers are made in order.
use Rattle.std.specs.Prelude.{◌≡◌, ℕ, ◌+◌, Bool, cond, List, [], ◌∷◌, length}
use Rattle.site.specs.Messages.{aired}
use Rattle.site.specs.Model.{Model}
use Rattle.site.specs.Events.{Event, Goes, Chain}
use Rattle.site.specs.Events.Event.{started, offered}
use Rattle.site.specs.Counting.{done_at}
use Rattle.cbsp.specs.declared.channel.Channel.{Channel}
use Rattle.site.specs.declared.period.Offer.{Offer}

-- an offer with its answer
abbrev pub answered : Offer → Bool → Event
answered o r = offered o.cell o.channel (aired o.message) r

-- offers, each with its answer
unfoldable pub events : List Offer → List Bool → List Event
events [] rs = []
events (o ∷ os) [] = []
events (o ∷ os) (r ∷ rs) = answered o r ∷ events os rs

-- how many were done
unfoldable pub done_of : List Bool → ℕ
done_of [] = 0
done_of (r ∷ rs) = cond r 1 0 + done_of rs

-- by an answer to each offer a site goes from s to t, and n broadcasts were done
pub record Offers {S : Type 0} (go : S → Event → S → Type 0) (s : S) (os : List Offer) (n : ℕ) (t : S) : Type 0 where
  pub answers : List Bool
  pub each : length answers ≡ length os
  pub chain : Chain go s (events os answers) t
  pub done : n ≡ done_of answers

-- and each count rose by the broadcasts done there, and by nothing else
pub record Served {S : Type 0} (model : S → Model) (steps : S → Event → S → Type 0) (s : S) (os : List Offer) (n : ℕ) (t : S) : Type 0 where
  pub offers : Offers (Goes model steps) s os n t
  pub counts : (k : ℕ) (h : Channel) → (model t).count k h ≡ (model s).count k h + done_at k h (events os offers.answers)

-- the same after the start of a period
pub record Period {S : Type 0} (model : S → Model) (steps : S → Event → S → Type 0) (s : S) (os : List Offer) (n : ℕ) (t : S) : Type 0 where
  pub begun : S
  pub start : Goes model steps s started begun
  pub served : Served model steps begun os n t
