-- The calls that change a site, and chains of them.
use Rattle.std.specs.Prelude.{◌≡◌, ℕ, Bool, List, [], ◌∷◌}
use Rattle.cbsp.specs.declared.channel.Channel.{Channel}
use Rattle.site.specs.Model.{Model, Switched, Started, Offered}
use Rattle.site.specs.Messages.{Aired}

-- a call with what it was given and what it answered
pub data Event : Type 0 where
  -- a cell, and whether it was opened
  switched : ℕ → Bool → Event
  started : Event
  -- a cell, a channel, a message, and whether it was broadcast
  offered : ℕ → Channel → Aired → Bool → Event

-- what a call means
abbrev pub Moves : Model → Event → Model → Type 0
Moves m (switched k b) n = Switched k b m n
Moves m started n = Started m n
Moves m (offered k h x r) n = Offered k h r m n

-- a site goes from s to t by a call: as the call means, and as the site itself promises
pub record Goes {S : Type 0} (model : S → Model) (steps : S → Event → S → Type 0) (s : S) (e : Event) (t : S) : Type 0 where
  pub meaning : Moves (model s) e (model t)
  pub itself : steps s e t

-- a site goes from s to t by these calls, in their order
unfoldable pub Chain : {S : Type 0} → (S → Event → S → Type 0) → S → List Event → S → Type 0
Chain go s [] t = t ≡ s
Chain {S} go s (e ∷ es) t = (u : S) × go s e u × Chain go u es t
