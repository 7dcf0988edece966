-- An accepted message keeps the invariant: each request by its work and its reply, and octets that cannot be read.
use Rattle.std.proofs.Common.{◌≡◌, ℕ, ◌≤◌, Bool, true, false, cond, ltb, List, length, Ok, Err, None, Result, sym, refl, ap, ◌∙◌, subst}
use Rattle.std.proofs.lemmas.Bool.{both_ways, ltb-false}
use Rattle.answering.specs.Fitting.{RepliesFit}
use Rattle.answering.specs.Handled.{asked_by, key_by, with_text}
use Rattle.answering.specs.Replies.{begun_list, completed_list, failed_list}
use Rattle.answers.specs.Answers.{error, keep_alive_complete}
use Rattle.book.specs.Told.{Told, told}
use Rattle.book.specs.Told.Told.{silent}
use Rattle.cbsp.specs.declared.refusal.Refusal.{Refusal}
use Rattle.elements.specs.declared.faults.Fault.{Fault}
use Rattle.elements.specs.Octets.{Octets}
use Rattle.messages.specs.Messages.{error_for, whole_message}
use Rattle.outcomes.specs.Tells.{OutcomesTell}
use Rattle.outcomes.specs.Works.{kill_work, query_work, write_work}
use Rattle.requests.proofs.RequestLaws.{requests_round_trip}
use Rattle.requests.specs.Requests.{RequestV, keep_alive, kill, read_request, request_fits, reset, status_query, write_replace}
use Rattle.site.specs.Events.{Event}
use Rattle.site.specs.Model.{Model}
use Rattle.table.specs.Storing.{stored}
use Rattle.law.specs.Calls.{answered, is_err, octets_of}
use Rattle.law.specs.Calls.Call.{messaging}
use Rattle.law.specs.State.{State}
use Rattle.law.specs.Steps.{Moment, Reacts}
use Rattle.law.proofs.Accepted.{carried}
use Rattle.law.proofs.Changes.{silent_change}
use Rattle.law.proofs.Invariants.{Change, Invariant, Next}
use Rattle.law.proofs.Requests.{emptied, killed, queried, replaced}
use Rattle.law.proofs.Telling.{told_kill, told_query, told_spelt, told_write}

-- one whole message has a header
has_header : (os : List ℕ) → is_err (whole_message os) ≡ false → 4 ≤ length os
has_header os e = ltb-false (length os) 4 (go (ltb 2048 (length os)) (ltb (length os) 4) _ _ _ e)
  where
    go : (a b : Bool) (x y : Refusal) (r : Result (Unit {0}) Refusal) → is_err (cond a (Err x) (cond b (Err y) r)) ≡ false → b ≡ false
    go true b x y r e = absurd (both_ways true e refl)
    go false true x y r e = absurd (both_ways true e refl)
    go false false x y r e = refl

module _ {S : Type 0} (model : S → Model) (steps : S → Event → S → Type 0) (tells : OutcomesTell) (fits : RepliesFit) (ms : List Moment) (m : Moment)
    (t u : State) (s v : S) (i : Invariant ms t (model s)) (before : m.before ≡ model s) (after : m.after ≡ model v) (went : m.went ≡ None)
    (link : ℕ) (octets : List ℕ) (marks space : ℕ) (call : m.call ≡ messaging link octets marks space) (are_octets : Octets octets)
    (announced : t.announced ≡ true) (whole : is_err (whole_message octets) ≡ false)
    (r : Reacts model steps (messaging link octets marks space) t s u v m.sent) where
  abbrev opened : ℕ → Bool
  opened = (model s).opened

  -- what comes to be from a result of reading, and from what is told then
  by : {read : Result RequestV Fault} → read_request octets ≡ read → (x : Told) → told (octets_of (answered t opened read).reply) ≡ x
      → Change ms (messaging link octets marks space) x t (answered t opened read).table → Next ms m t u (model v)
  by e x y change =
      carried model steps tells fits ms m t u s v i before after went (messaging link octets marks space) x call r
      (subst (λ (q : Result RequestV Fault). told (octets_of (answered t opened q).reply) ≡ x) (sym e) y)
      (subst (λ (q : Result RequestV Fault). Change ms (messaging link octets marks space) x t (answered t opened q).table) (sym e) change)
      (ap (λ (z : S). (model z).count) r.site)

  fit : {q : RequestV} → read_request octets ≡ Ok q → request_fits q ≡ true
  fit e = (requests_round_trip.0 octets _ are_octets (has_header octets whole) e).1

  heard : t.ever ≡ true
  heard = i.heard announced

  -- octets that cannot be read, a query and a KEEP-ALIVE leave the messages; the other requests by what their replies tell
  by_reading : (read : Result RequestV Fault) → read_request octets ≡ read → Next ms m t u (model v)
  by_reading (Err f) e =
      by e silent (told_spelt (error (error_for f)) (fits.fault f))
      (silent_change ms _ t _ (model s) i (record { cells = refl; long = refl; periods = refl; heard = i.heard }) refl (λ k l. refl))
  by_reading (Ok (write_replace w)) e =
      let o = write_work t.cells opened (asked_by w) t.rows w.cells in
      by e _
      (told_spelt _ (fits.write t.cells opened (asked_by w) t.rows w i.long i.checked.few (fit e))
      ∙ told_write w (begun_list t.cells o.out) (completed_list t.cells o.out) (failed_list t.cells o.out))
      (replaced tells ms t (model s) i link octets marks space opened announced w (with_text o.request.slot (stored w.coding w.pages) t.texts) e)
  by_reading (Ok (kill q)) e =
      let o = kill_work t.cells opened (key_by q) t.rows q.cells in
      by e _
      (told_spelt _ (fits.kill t.cells opened (key_by q) t.rows q i.long i.checked.few (fit e))
      ∙ told_kill q (completed_list t.cells o.out) (failed_list t.cells o.out))
      (killed tells ms t (model s) i link octets marks space opened announced q)
  by_reading (Ok (status_query q)) e =
      let o = query_work t.cells opened (key_by q) t.rows q.cells in
      by e silent
      (told_spelt _ (fits.query t.cells opened (key_by q) t.rows q i.long i.checked.few (fit e))
      ∙ told_query q (completed_list t.cells o.out) (failed_list t.cells o.out))
      (queried tells ms t (model s) i link octets marks space opened announced q)
  by_reading (Ok (reset list)) e =
      by e _ (told_spelt _ (fits.reset t.cells opened t.rows list i.long i.checked.few (fit e)))
      (emptied tells ms t (model s) i link octets marks space opened announced list)
  by_reading (Ok (keep_alive code)) e =
      by e silent (told_spelt (keep_alive_complete tt) fits.alive)
      (silent_change ms _ t _ (model s) i (record { cells = refl; long = refl; periods = refl; heard = i.heard }) refl (λ k l. refl))

  pub taken : Next ms m t u (model v)
  taken = by_reading (read_request octets) refl
