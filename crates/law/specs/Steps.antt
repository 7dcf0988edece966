-- One call on a table over a site, by the rules.
use Rattle.std.specs.Prelude.{◌≡◌, ℕ, ◌+◌, ◌-◌, Bool, true, false, cond, List, [], ◌∷◌, Some, None, Option, slice_index_or, slice_set}
use Rattle.cbsp.specs.declared.refusal.Refusal.{Refusal}
use Rattle.elements.specs.Octets.{Octets}
use Rattle.rows.specs.declared.row.Row.{Row}
use Rattle.rows.specs.Sweep.{Served}
use Rattle.site.specs.Model.{Model}
use Rattle.site.specs.Events.{Event, Goes}
use Rattle.site.specs.Events.Event.{switched, started}
use Rattle.law.specs.State.{State, rows_at, with_period}
use Rattle.law.specs.Calls.{Call, refusal_of, reaction, octets_of}
use Rattle.law.specs.Calls.Call.{opening, announcing, messaging, period, losing, returning, shutting}

-- a link as the host holds it
pub data Link : Type 0 where
  waiting : Link
  open_link : Link
  gone : Link

abbrev pub is_waiting : Link → Bool
is_waiting waiting = true
is_waiting open_link = false
is_waiting gone = false

abbrev pub is_open : Link → Bool
is_open waiting = false
is_open open_link = true
is_open gone = false

abbrev pub is_held : Link → Bool
is_held waiting = true
is_held open_link = true
is_held gone = false

abbrev pub link_at : List Link → ℕ → Link
link_at links n = slice_index_or links n gone

-- whether the host has the link that a call needs
abbrev pub is_linked : Call → List Link → Bool
is_linked opening links = true
is_linked (announcing n space) links = is_waiting (link_at links n)
is_linked (messaging n octets marks space) links = is_open (link_at links n)
is_linked period links = true
is_linked (losing n k space) links = is_open (link_at links n)
is_linked (returning n k recovery space) links = is_open (link_at links n)
is_linked (shutting n) links = is_held (link_at links n)

-- the host's links after an accepted call
abbrev pub links_after : Call → State → List Link → List Link
links_after opening t links = slice_set links (t.openings + 1) waiting
links_after (announcing n space) t links = slice_set links n open_link
links_after (messaging n octets marks space) t links = links
links_after period t links = links
links_after (losing n k space) t links = links
links_after (returning n k recovery space) t links = links
links_after (shutting n) t links = slice_set links n gone

-- the octets that the host hands over
abbrev pub octets_in : Call → List ℕ
octets_in opening = []
octets_in (announcing n space) = []
octets_in (messaging n octets marks space) = octets
octets_in period = []
octets_in (losing n k space) = []
octets_in (returning n k recovery space) = []
octets_in (shutting n) = []

-- what comes of a call: it is carried out, refused, or not made for want of a link
pub data Answer : Type 0 where
  done : Answer
  refused : Refusal → Answer
  unlinked : Answer

abbrev pub refused_or : Option Refusal → Answer
refused_or None = done
refused_or (Some r) = refused r

-- a moment of a run: a call, what came of it, what was sent, for a period how often each message of a cell went out, the
-- oldest first, and what the site showed before and after
pub record Moment : Type 0 where
  pub call : Call
  pub answer : Answer
  pub sent : List ℕ
  pub went : Option (ℕ → List ℕ)
  pub before : Model
  pub after : Model

-- how far each count rose
abbrev pub rises : List Row → List Row → List ℕ
rises [] ss = []
rises (r ∷ rs) [] = []
rises (r ∷ rs) (s ∷ ss) = (s.count - r.count) ∷ rises rs ss

-- a table, a site, and the host's links
pub record World (S : Type 0) : Type 0 where
  pub table : State
  pub site : S
  pub links : List Link

-- a site, by its meaning and its own account of what each call did
module _ {S : Type 0} (model : S → Model) (steps : S → Event → S → Type 0) where
  -- a period starts at the site, and the messages of all cells have their turns
  pub record Period (t : State) (s : S) (t' : State) (s' : S) : Type 0 where
    pub begun : S
    pub start : Goes model steps s started begun
    pub served : Served model steps t.texts t.rows begun t'.rows s'
    pub table : t' ≡ with_period t t'.rows (t.periods + 1)

  -- what a call does at the site: a cell is closed or opened, or nothing
  abbrev pub SiteMoves : Call → S → S → Type 0
  SiteMoves opening s s' = s' ≡ s
  SiteMoves (announcing n space) s s' = s' ≡ s
  SiteMoves (messaging n octets marks space) s s' = s' ≡ s
  SiteMoves period s s' = s' ≡ s
  SiteMoves (losing n k space) s s' = Goes model steps s (switched k false) s'
  SiteMoves (returning n k recovery space) s s' = Goes model steps s (switched k true) s'
  SiteMoves (shutting n) s s' = s' ≡ s

  -- table, site and octets of an accepted call that is no period
  pub record Reacts (c : Call) (t : State) (s : S) (t' : State) (s' : S) (sent : List ℕ) : Type 0 where
    pub table : t' ≡ (reaction c t (model s).opened).table
    pub sends : sent ≡ octets_of (reaction c t (model s).opened).reply
    pub site : SiteMoves c s s'

  abbrev pub Acts : Call → Moment → World S → World S → Type 0
  Acts opening m w v = Reacts opening w.table w.site v.table v.site m.sent × (m.went ≡ None)
  Acts (announcing n space) m w v = Reacts (announcing n space) w.table w.site v.table v.site m.sent × (m.went ≡ None)
  Acts (messaging n octets marks space) m w v = Reacts (messaging n octets marks space) w.table w.site v.table v.site m.sent × (m.went ≡ None)
  Acts period m w v = Period w.table w.site v.table v.site × (m.sent ≡ []) × (m.went ≡ Some (λ k. rises (rows_at w.table k) (rows_at v.table k)))
  Acts (losing n k space) m w v = Reacts (losing n k space) w.table w.site v.table v.site m.sent × (m.went ≡ None)
  Acts (returning n k recovery space) m w v = Reacts (returning n k recovery space) w.table w.site v.table v.site m.sent × (m.went ≡ None)
  Acts (shutting n) m w v = Reacts (shutting n) w.table w.site v.table v.site m.sent × (m.went ≡ None)

  -- nothing changed and nothing was sent
  pub record Kept (m : Moment) (w v : World S) : Type 0 where
    pub world : v ≡ w
    pub sent : m.sent ≡ []
    pub went : m.went ≡ None

  abbrev pub Came : Answer → Moment → World S → World S → Type 0
  Came done m w v = Acts m.call m w v × (v.links ≡ links_after m.call w.table w.links)
  Came (refused r) m w v = Kept m w v
  Came unlinked m w v = Kept m w v

  -- what comes of a call
  abbrev pub answer_to : Call → World S → Answer
  answer_to c w = cond (is_linked c w.links) (refused_or (refusal_of c w.table (model w.site).opened)) unlinked

  -- one call by the rules
  pub record Step (m : Moment) (w v : World S) : Type 0 where
    pub octets : Octets (octets_in m.call)
    pub before : m.before ≡ model w.site
    pub after : m.after ≡ model v.site
    pub answers : m.answer ≡ answer_to m.call w
    pub came : Came m.answer m w v
