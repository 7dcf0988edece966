-- An accepted period keeps the invariant, and each message goes out in it as it must.
use Rattle.std.proofs.Common.{◌≡◌, ℕ, ◌+◌, ◌*◌, ◌<◌, ◌≤◌, Bool, List, [], ◌∷◌, map, length, Some, Option, sym, ap, ◌∙◌, subst, arith}
use Rattle.std.proofs.lemmas.Bool.{or_parts}
use Rattle.std.proofs.lemmas.List.{length-map}
use Rattle.std.proofs.lemmas.Slice.Zip.{AllZip-long}
use Rattle.std.specs.List.{AllZip}
use Rattle.book.specs.Book.{added}
use Rattle.book.specs.Told.{told}
use Rattle.cbsp.specs.declared.channel.Channel.{Channel}
use Rattle.cells.specs.File.{identities}
use Rattle.rows.specs.Sweep.{lowered}
use Rattle.site.specs.Events.{Event}
use Rattle.site.specs.Model.{Model}
use Rattle.law.specs.Law.{Fair, Right, Served, Tied, book, excepted, spoils, tally}
use Rattle.law.specs.Standing.{gone, standing}
use Rattle.law.specs.State.{State, rows_at}
use Rattle.law.specs.Steps.{Moment, Period, rises}
use Rattle.law.proofs.Invariants.{Invariant, Next, Over}
use Rattle.law.proofs.Periods.{gone_is, nothing_moved, tally_lowered, tied_aged, tied_fair, tied_moved}
use Rattle.law.proofs.Sweeping.{SweptAll, swept_all}
use Rattle.law.proofs.Turning.{Moved}

module _ {S : Type 0} (model : S → Model) (steps : S → Event → S → Type 0) (ms : List Moment) (m : Moment) (t u : State) (s v : S) (i : Invariant ms t (model s))
    (before : m.before ≡ model s) (after : m.after ≡ model v) (p : Period model steps t s u v) (sent : m.sent ≡ [])
    (went : m.went ≡ Some (λ k. rises (rows_at t k) (rows_at u k))) (left : t.periods < 4294967295) where
  all : SweptAll t.rows u.rows (model p.begun) (model v)
  all = swept_all model steps t.texts t.rows u.rows p.begun v p.served

  one_more : u.periods ≡ t.periods + 1
  one_more = ap (λ (x : State). x.periods) p.table

  moved : (k : ℕ) → AllZip (Moved k (model v)) (map lowered (rows_at t k)) (rows_at u k)
  moved k = (all.swept k).rows

  started_count : (k : ℕ) (h : Channel) → (model p.begun).count k h ≡ (model s).count k h
  started_count k h = ap (λ (f : ℕ → Channel → ℕ). f k h) p.start.meaning.count

  -- the counts of a cell's messages rose with the site's
  tallied : (k : ℕ) (h : Channel) → (model v).count k h + tally h (rows_at t k) ≡ (model s).count k h + tally h (rows_at u k)
  tallied k h = omega (arith, (all.swept k).count h, started_count k h, tally_lowered h (rows_at t k))

  rose : (k : ℕ) (h : Channel) → k < length t.cells → (model v).count k h ≡ (model s).count k h + gone h (standing t.cells ms k) (rises (rows_at t k) (rows_at u k))
  rose k h l = omega (arith, (gone_is k (model v) h (standing t.cells ms k) (rows_at t k) (rows_at u k) (i.standings k l) (moved k)).0, tallied k h)

  bound : (k : ℕ) (h : Channel) → k < length t.cells → (model v).count k h ≤ 8 * u.periods
  bound k h l =
      omega (arith, one_more, rose k h l, (gone_is k (model v) h (standing t.cells ms k) (rows_at t k) (rows_at u k) (i.standings k l) (moved k)).1, i.few k l, i.counts k h l)

  kept : Over t.cells (m ∷ ms) u (model v)
  kept = record {
    checked = i.checked;
    long = all.long ∙ i.long;
    standings = λ k l.
        rw (went, sent) (tied_aged k (model v) (standing t.cells ms k) (rows_at t k) (rows_at u k) (i.standings k l) (moved k));
    messages = λ k l. rw sent (tied_moved k (model v) (book ms (identities t.cells k)) (rows_at t k) (rows_at u k) (i.messages k l) (moved k));
    nowhere = λ j n. rw sent (i.nowhere j n);
    sums = λ k h l e.
        let x = or_parts (spoils m.call (told m.sent) (identities t.cells k)) (excepted ms (identities t.cells k)) e in
        let y = ap (λ (os : List ℕ). added (identities t.cells k) h (told os)) sent in
        omega (arith, y, i.sums k h l x.1, tallied k h);
    few = λ k l.
        omega (arith, i.few k l, AllZip-long (Moved k (model v)) (map lowered (rows_at t k)) (rows_at u k) (moved k), length-map (rows_at t k) lowered);
    counts = bound;
    periods = omega (arith, one_more, left);
    unheard = λ e k l.
        let z = i.unheard (sym (ap (λ (x : State). x.ever) p.table) ∙ e) k l in
        nothing_moved k (model v) (rows_at u k) (rw z at (moved k));
    heard = λ e. ap (λ (x : State). x.ever) p.table ∙ i.heard (sym (ap (λ (x : State). x.announced) p.table) ∙ e);
  }

  open_as_before : (k : ℕ) → (model v).opened k ≡ (model s).opened k
  open_as_before k = ap (λ (f : ℕ → Bool). f k) all.opened ∙ ap (λ (f : ℕ → Bool). f k) p.start.meaning.opened

  -- what went out of a cell, with the moments that this moment follows
  served : (k : ℕ) → k < length t.cells → Served t.cells (λ j. rises (rows_at t j) (rows_at u j)) m ms k
  served k l = record {
    fair =
        rw (after, before)
        (subst (λ (b : Bool). Tied (Fair b ((model v).room k)) (standing t.cells ms k) (rises (rows_at t k) (rows_at u k))) (open_as_before k)
        (tied_fair k (model v) (omega (arith, i.checked.few, l)) (λ h. omega (arith, bound k h l, one_more, left)) (standing t.cells ms k) (rows_at t k)
        (rows_at u k) (i.standings k l) (moved k)));
    counts = λ h. rw (after, before) (rose k h l);
  }

  elsewhere : (k : ℕ) (h : Channel) → length t.cells ≤ k → m.after.count k h ≡ m.before.count k h
  elsewhere k h l = rw (after, before) (all.rest k h (omega (arith, i.long, l)) ∙ started_count k h)

  pub passed : Next ms m t u (model v)
  passed = record { cells = ap (λ (x : State). x.cells) p.table; invariant = kept; right = subst (λ (g : Option (ℕ → List ℕ)). Right t.cells g m ms) (sym went) (served, elsewhere) }
