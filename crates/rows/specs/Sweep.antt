-- What a period does with the messages of a cell, and in which order they are offered to the site.
use Rattle.std.specs.Prelude.{◌≡◌, ℕ, ◌+◌, ◌-◌, Bool, cond, ◌&&◌, ◌||◌, List, ◌==◌, nat_lt}
use Rattle.site.specs.Model.{Model}
use Rattle.site.specs.Events.{Event, Goes}
use Rattle.site.specs.Events.Event.{offered}
use Rattle.rows.specs.declared.row.Row.{Row}
use Rattle.rows.specs.Linked.{Linked}
use Rattle.rows.specs.Texts.{Text, aired_for}

-- its wait is over, and it went out fewer times than requested (0: no bound)
abbrev pub due : Row → Bool
due r = r.wait == 0 && (r.requested == 0 || nat_lt r.count r.requested)

abbrev pub with_count : Row → ℕ → ℕ → Row
with_count r count wait =
    record {
      channel = r.channel;
      identifier = r.identifier;
      serial = r.serial;
      period = r.period;
      requested = r.requested;
      count = count;
      wait = wait;
      slot = r.slot;
    }

-- a message once it has gone out
abbrev pub sent : Row → Row
sent r = with_count r (r.count + 1) r.period

-- a message with a positive wait one less
abbrev pub lowered : Row → Row
lowered r = with_count r r.count (r.wait - 1)

-- a site, by its meaning and its own account of what each call did
module _ {S : Type 0} (model : S → Model) (steps : S → Event → S → Type 0) (texts : List Text) where
  -- a message was offered; it went out exactly where the site did the broadcast
  pub record Offer (cell : ℕ) (r : Row) (s : S) (r' : Row) (t : S) : Type 0 where
    pub done : Bool
    pub goes : Goes model steps s (offered cell r.channel (aired_for texts r) done) t
    pub after : r' ≡ cond done (sent r) r

  -- a message that is due is offered, any other stays
  abbrev pub Turn : ℕ → Row → S → Row → S → Type 0
  Turn cell r s r' t = cond (due r) (Offer cell r s r' t) ((r' ≡ r) × (t ≡ s))

  -- the messages of a cell in a period, the oldest first: each wait is lowered, and then what is due is offered
  abbrev pub Turns : ℕ → List Row → S → List Row → S → Type 0
  Turns cell rs s xs t = Linked (λ _ r u x v. Turn cell (lowered r) u x v) 0 rs s xs t

  -- the cells in a period, in the order of their numbers
  abbrev pub Served : List (List Row) → S → List (List Row) → S → Type 0
  Served rss s xss t = Linked Turns 0 rss s xss t
