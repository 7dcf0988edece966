-- The law of runs: the invariant holds after every run, and so the law does.
use Rattle.std.proofs.Common.{◌≡◌, ℕ, ◌<◌, ◌≤◌, Bool, true, false, cond, not, ◌||◌, eqb, List, [], ◌∷◌, map, length, get_or, Some, None, Option, sym, refl, ap, ◌∙◌, subst, arith}
use Rattle.std.proofs.lemmas.Bool.{both_ways, eqb-false, ltb-true, not-false, or_parts}
use Rattle.std.proofs.lemmas.List.{length-map}
use Rattle.answering.specs.Fitting.{RepliesFit}
use Rattle.book.specs.Told.{Booked, told}
use Rattle.book.specs.Told.Told.{silent}
use Rattle.cbsp.specs.declared.refusal.Refusal.{Refusal}
use Rattle.cbsp.specs.declared.refusal.Refusal.TheVariants as refusal
use Rattle.cells.specs.declared.cell.Cell.{Cell}
use Rattle.cells.specs.File.{identities}
use Rattle.elements.specs.Octets.{Octets}
use Rattle.outcomes.specs.Tells.{OutcomesTell}
use Rattle.rows.specs.declared.row.Row.{Row}
use Rattle.site.specs.Events.{Event}
use Rattle.site.specs.Model.{Model}
use Rattle.law.specs.Calls.{Call, is_stale, no_cell, no_space, not_open, not_whole, refusal_of, too_long}
use Rattle.law.specs.Calls.Call.{announcing, losing, messaging, opening, period, returning, shutting}
use Rattle.law.specs.Law.{AllRight, Kept, Law, Tied, book, booked_of, tally}
use Rattle.law.specs.Runs.{Fresh, Run}
use Rattle.law.specs.Standing.{standing}
use Rattle.law.specs.State.{State, rows_at}
use Rattle.law.specs.Steps.{Acts, Answer, Came, Moment, Step, World, answer_to, octets_in, refused_or}
use Rattle.law.specs.Steps as steps_of
use Rattle.law.specs.Steps.Answer.{done, refused, unlinked}
use Rattle.law.proofs.Accepted.{announced_again, lost, none_holds, opened_again, returned, shut}
use Rattle.law.proofs.Bounds.{none_at}
use Rattle.law.proofs.Changes.{silent_change}
use Rattle.law.proofs.Invariants.{Invariant, Next, Over, quietly}
use Rattle.law.proofs.Messages.{taken}
use Rattle.law.proofs.Passing.{passed}
use Rattle.law.proofs.Pasts.{Keeps}
use Rattle.law.proofs.Periods.{Is}
use Rattle.law.proofs.Tying.{tied_weaker}

-- a link that is not refused: the table is announced
on_link : (link : ℕ) (t : State) → (is_stale link t || not t.announced) ≡ false → t.announced ≡ true
on_link link t e = not-false t.announced (or_parts (is_stale link t) (not t.announced) e).1

module _ {S : Type 0} (model : S → Model) (steps : S → Event → S → Type 0) (tells : OutcomesTell) (fits : RepliesFit) where
  -- an accepted call
  accepted :
      (ms : List Moment) (m : Moment) (w v : World S) → Invariant ms w.table (model w.site) → m.before ≡ model w.site → m.after ≡ model v.site → (c : Call)
      → m.call ≡ c → Octets (octets_in c) → refusal_of c w.table (model w.site).opened ≡ None → Acts model steps c m w v
      → Next ms m w.table v.table (model v.site)
  accepted ms m w v i before after opening e o f a = opened_again model steps tells fits ms m w.table v.table w.site v.site i before after a.1 e a.0
  accepted ms m w v i before after (announcing link space) e o f a =
      announced_again model steps tells fits ms m w.table v.table w.site v.site i before after a.1 link space e a.0
  accepted ms m w v i before after (messaging link octets marks space) e o f a =
      let h
      = none_holds (no_space space ∷ (not (eqb marks 64), refusal.WrongMarkCount) ∷ too_long octets ∷ not_whole octets ∷ not_open link w.table ∷ []) f in
      taken model steps tells fits ms m w.table v.table w.site v.site i before after a.1 link octets marks space e o (on_link link w.table h.1.1.1.1.0) h.1.1.1.0 a.0
  accepted ms m w v i before after period e o f a =
      let h = none_holds ((eqb w.table.periods 4294967295, refusal.PeriodsUsedUp) ∷ []) f in
      passed model steps ms m w.table v.table w.site v.site i before after a.0 a.1 a.2
      (let n = eqb-false w.table.periods 4294967295 h.0 in let p = i.periods in below w.table.periods p n)
    where
      below : (n : ℕ) → n ≤ 4294967295 → (n ≡ 4294967295 → ⊥) → n < 4294967295
      below n l ne = omega arith
  accepted ms m w v i before after (losing link k space) e o f a =
      lost model steps tells fits ms m w.table v.table w.site v.site i before after a.1 link k space e a.0
  accepted ms m w v i before after (returning link k recovery space) e o f a =
      let h = none_holds (no_space space ∷ not_open link w.table ∷ no_cell k w.table ∷ ((model w.site).opened k, refusal.CellAlreadySo) ∷ []) f in
      returned model steps tells fits ms m w.table v.table w.site v.site i before after a.1 link k space recovery (on_link link w.table h.1.0)
      (ltb-true k (length w.table.cells) (not-false _ h.1.1.0)) e a.0
  accepted ms m w v i before after (shutting link) e o f a = shut model steps tells fits ms m w.table v.table w.site v.site i before after a.1 link e a.0

  -- a call that is refused or not made
  unchanged :
      (ms : List Moment) (m : Moment) (w v : World S) → Invariant ms w.table (model w.site) → m.before ≡ model w.site → m.after ≡ model v.site
      → steps_of.Kept model steps m w v → Next ms m w.table v.table (model v.site)
  unchanged ms m w v i before after k =
      let e = k.world in
      let table : v.table ≡ w.table = ap (λ (x : World S). x.table) e in
      quietly ms m w.table v.table (model w.site) (model v.site) silent i
      (rw table (silent_change ms m.call w.table w.table (model w.site) i (record { cells = refl; long = refl; periods = refl; heard = i.heard }) refl (λ j l. refl)))
      before after (ap told k.sent) k.went (ap (λ (x : World S). (model x.site).count) e)

  accepted_only : (linked : Bool) (r : Option Refusal) → cond linked (refused_or r) unlinked ≡ done → r ≡ None
  accepted_only true None e = refl
  accepted_only true (Some r) e = absurd cc
  accepted_only false r e = absurd cc

  step : (ms : List Moment) (m : Moment) (w v : World S) → Invariant ms w.table (model w.site) → Step model steps m w v → Next ms m w.table v.table (model v.site)
  step ms m w v i s = go m.answer refl s.came
    where
      go : (a : Answer) → m.answer ≡ a → Came model steps a m w v → Next ms m w.table v.table (model v.site)
      go done e c = accepted ms m w v i s.before s.after m.call refl s.octets (accepted_only _ _ (sym s.answers ∙ e)) c.0
      go (refused r) e c = unchanged ms m w v i s.before s.after c
      go unlinked e c = unchanged ms m w v i s.before s.after c

  -- a table and a site just made
  fresh : (w : World S) → Fresh model steps w → Invariant [] w.table (model w.site)
  fresh w f = record {
    checked = f.table.checked;
    long = rw f.table.rows (length-map w.table.cells (λ c. []));
    standings = λ k l. rw (empty k) tt;
    messages = λ k l. rw (empty k) tt;
    nowhere = λ i n. refl;
    sums = λ k h l e. let t = ap (tally h) (empty k) in omega (arith, f.site.count k h, t);
    few = λ k l. rw (empty k) (omega arith);
    counts = λ k h l. omega (arith, f.site.count k h);
    periods = omega (arith, f.table.periods);
    unheard = λ _ k l. empty k;
    heard = λ e. absurd (both_ways w.table.announced f.table.announced e);
  }
    where
      empty : (k : ℕ) → rows_at w.table k ≡ []
      empty k = ap (λ (rows : List (List Row)). get_or rows k []) f.table.rows ∙ none_at w.table.cells k

  run : (w v : World S) (ms : List Moment) → Fresh model steps w → Run model steps w ms v → Invariant ms v.table (model v.site) × AllRight v.table.cells ms
  run w v [] f r = (rw r (fresh w f), tt)
  run w v (m ∷ ms) f r =
      let before = run w r.0 ms f r.1 in
      let now = step ms m r.0 v before.0 r.2 in
      subst (λ (cs : List Cell). Over cs (m ∷ ms) v.table (model v.site) × AllRight cs (m ∷ ms)) (sym now.cells) (now.invariant, (now.right, before.1))

  -- book and table hold the same messages
  map_is : (xs : List Booked) (rs : List Row) → Tied Is xs rs → xs ≡ map booked_of rs
  map_is [] [] t = refl
  map_is [] (r ∷ rs) t = absurd t
  map_is (x ∷ xs) [] t = absurd t
  map_is (x ∷ xs) (r ∷ rs) t = let p = t.0 in let q = map_is xs rs t.1 in cc

  pub law : Law model steps
  law w v ms f r =
      let x = run w v ms f r in
      record {
        messages = λ k l. map_is (book ms (identities v.table.cells k)) (rows_at v.table k) (x.0.messages k l);
        nowhere = x.0.nowhere;
        sums = x.0.sums;
        standings = λ k l.
            tied_weaker Keeps Kept (λ s r k. record { message = k.message; count = k.count }) (standing v.table.cells ms k) (rows_at v.table k) (x.0.standings k l);
        periods = x.1;
      }
