-- The turn of one message in a period: it went out or was kept back for a reason that lasts to the end of the period, and the
-- site's counts rose by just what the message's count did.
use Rattle.std.proofs.Common.{◌≡◌, ℕ, ◌+◌, ◌^◌, ◌<◌, ◌≤◌, Bool, true, false, cond, ◌≢◌, ◌⊎◌, List, refl, ap, ◌∙◌, inl, inr, arith}
use Rattle.std.proofs.lemmas.Bool.{both_ways, cases_lt, cases_eq}
use Rattle.book.specs.Book.{on_channel}
use Rattle.cbsp.specs.declared.channel.Channel.{Channel}
use Rattle.cbsp.specs.declared.channel.Channel.TheVariants.{Basic, Extended}
use Rattle.rows.specs.declared.row.Row.{Row}
use Rattle.rows.specs.Sweep.{Offer, Turn, due, sent}
use Rattle.rows.specs.Texts.{Text}
use Rattle.site.specs.Events.{Event}
use Rattle.site.specs.Model.{Can, Done, Model, Offered}

-- why a due message did not go out: its cell is closed, has no room, its count is full, or the site has no such cell
abbrev pub Blocked : ℕ → Channel → Model → Type 0
Blocked k h n = (n.opened k ≡ false) ⊎ ((n.room k ≡ 0) ⊎ ((2 ^ 48 ≤ n.count k h) ⊎ (64 ≤ k)))

-- what became of a message of cell k, its wait lowered already, when the site ended as n
pub data Moved (k : ℕ) (n : Model) (r s : Row) : Type 0 where
  went : s ≡ sent r → due r ≡ true → n.opened k ≡ true → Moved k n r s
  stayed : s ≡ r → (due r ≡ true → Blocked k r.channel n) → Moved k n r s

-- what offers leave: no cell is closed or opened, no room grows, no count falls
pub record Eased (m n : Model) : Type 0 where
  pub opened : n.opened ≡ m.opened
  pub room : (k : ℕ) → n.room k ≤ m.room k
  pub count : (k : ℕ) (h : Channel) → m.count k h ≤ n.count k h

pub eased_none : (m : Model) → Eased m m
eased_none m = record { opened = refl; room = λ k. omega arith; count = λ k h. omega arith }

pub eased_more : (m n o : Model) → Eased m n → Eased n o → Eased m o
eased_more m n o a b = record {
  opened = b.opened ∙ a.opened;
  room = λ k. omega (arith, a.room k, b.room k);
  count = λ k h. omega (arith, a.count k h, b.count k h);
}

-- what keeps a message back does so after further offers
blocked_more : (k : ℕ) (h : Channel) (n o : Model) → Eased n o → Blocked k h n → Blocked k h o
blocked_more k h n o b (inl e) = inl (ap (λ (f : ℕ → Bool). f k) b.opened ∙ e)
blocked_more k h n o b (inr (inl e)) = inr (inl (omega (arith, b.room k)))
blocked_more k h n o b (inr (inr (inl e))) = inr (inr (inl (omega (arith, b.count k h))))
blocked_more k h n o b (inr (inr (inr e))) = inr (inr (inr e))

pub moved_more : (k : ℕ) (n o : Model) → Eased n o → (r s : Row) → Moved k n r s → Moved k o r s
moved_more k n o b r s (went e d p) = went e d (ap (λ (f : ℕ → Bool). f k) b.opened ∙ p)
moved_more k n o b r s (stayed e f) = stayed e (λ d. blocked_more k r.channel n o b (f d))

-- what a message adds to the counts of a channel
abbrev pub share : Channel → Row → ℕ
share h r = cond (on_channel r.channel h) r.count 0

-- a turn of one message of cell k
pub record Turned (k : ℕ) (r x : Row) (m n : Model) : Type 0 where
  pub moved : Moved k n r x
  pub count : (h : Channel) → n.count k h + share h r ≡ m.count k h + share h x
  pub eased : Eased m n
  pub apart : (j : ℕ) (h : Channel) → j ≢ k → n.count j h ≡ m.count j h

-- it was kept back: the site is as it was
stayed_turned : (k : ℕ) (r x : Row) (m n : Model) → x ≡ r → n ≡ m → (due r ≡ true → Blocked k r.channel n) → Turned k r x m n
stayed_turned k r x m n e q f = record {
  moved = stayed e f;
  count = λ h. rw (e, q) refl;
  eased = rw q (eased_none m);
  apart = λ j h ne. rw q refl;
}

-- it went out: one more on its channel
done_count :
    (k a : ℕ) (m n : Model) (c : Channel) → Done m n k c → (h : Channel)
    → n.count k h + cond (on_channel c h) a 0 ≡ m.count k h + cond (on_channel c h) (a + 1) 0
done_count k a m n Basic d Basic = omega (arith, d.count)
done_count k a m n Basic d Extended = omega (arith, d.other k Extended (inr (λ e. let z : ◌≡◌ {A = ℕ} 0 1 = cc in let f : ⊥ = omega arith in f)))
done_count k a m n Extended d Basic = omega (arith, d.other k Basic (inr (λ e. let z : ◌≡◌ {A = ℕ} 0 1 = cc in let f : ⊥ = omega arith in f)))
done_count k a m n Extended d Extended = omega (arith, d.count)

done_eased : (k : ℕ) (m n : Model) (c : Channel) → Done m n k c → Eased m n
done_eased k m n c d = record { opened = d.opened; room = λ j. rooms j (cases_eq j k); count = λ j h. counts j h (cases_eq j k) }
  where
    fallen : (a b : ℕ) → (a ≡ b) ⊎ (a + 1 ≡ b) → a ≤ b
    fallen a b (inl e) = omega arith
    fallen a b (inr e) = omega arith

    rooms : (j : ℕ) → (j ≡ k) ⊎ (j ≡ k → ⊥) → n.room j ≤ m.room j
    rooms j (inl e) = rw e (omega (arith, d.room))
    rooms j (inr ne) = fallen (n.room j) (m.room j) (d.rooms j ne)

    risen : (h : Channel) (b : Bool) → n.count k h + cond b 0 0 ≡ m.count k h + cond b 1 0 → m.count k h ≤ n.count k h
    risen h true e = omega arith
    risen h false e = omega arith

    counts : (j : ℕ) (h : Channel) → (j ≡ k) ⊎ (j ≡ k → ⊥) → m.count j h ≤ n.count j h
    counts j h (inl e) = rw e (risen h (on_channel c h) (done_count k 0 m n c d h))
    counts j h (inr ne) = omega (arith, d.other j h (inl ne))

went_turned : (k : ℕ) (r x : Row) (m n : Model) → x ≡ sent r → due r ≡ true → Can m k r.channel → Done m n k r.channel → Turned k r x m n
went_turned k r x m n e u c d = record {
  moved = went e u (ap (λ (f : ℕ → Bool). f k) d.opened ∙ c.opened);
  count = λ h. rw e (done_count k r.count m n r.channel d h);
  eased = done_eased k m n r.channel d;
  apart = λ j h ne. d.other j h (inl ne);
}

-- where the site did not broadcast, it could not
refused : (k : ℕ) (h : Channel) (m : Model) → (Can m k h → ⊥) → Blocked k h m
refused k h m f = closed (m.opened k) refl (cases_lt 0 (m.room k)) (cases_lt (m.count k h) (2 ^ 48)) (cases_lt k 64)
  where
    closed : (b : Bool) → m.opened k ≡ b → (0 < m.room k) ⊎ (m.room k ≤ 0) → (m.count k h < 2 ^ 48) ⊎ (2 ^ 48 ≤ m.count k h) → (k < 64) ⊎ (64 ≤ k) → Blocked k h m
    closed false e r c l = inl e
    closed true e (inr r) c l = inr (inl (omega arith))
    closed true e (inl r) (inr c) l = inr (inr (inl c))
    closed true e (inl r) (inl c) (inr l) = inr (inr (inr l))
    closed true e (inl r) (inl c) (inl l) = absurd (f (record { within = l; opened = e; room = r; count = c }))

module _ {S : Type 0} (model : S → Model) (steps : S → Event → S → Type 0) (texts : List Text) where
  offered_turned : (k : ℕ) (r x : Row) (s t : S) → due r ≡ true → Offer model steps texts k r s x t → Turned k r x (model s) (model t)
  offered_turned k r x s t u o = go o.done o.goes.meaning o.after
    where
      go : (b : Bool) → Offered k r.channel b (model s) (model t) → x ≡ cond b (sent r) r → Turned k r x (model s) (model t)
      go true a e = went_turned k r x (model s) (model t) e u (a.can refl) (a.done refl)
      go false a e =
          let q : model t ≡ model s = a.kept refl in
          stayed_turned k r x (model s) (model t) e q (λ _. rw q (refused k r.channel (model s) (λ c. both_ways false refl (a.must c))))

  pub turned : (k : ℕ) (r x : Row) (s t : S) → Turn model steps texts k r s x t → Turned k r x (model s) (model t)
  turned k r x s t a = go (due r) refl a
    where
      go : (b : Bool) → due r ≡ b → cond b (Offer model steps texts k r s x t) ((x ≡ r) × (t ≡ s)) → Turned k r x (model s) (model t)
      go true u a = offered_turned k r x s t u a
      go false u a = stayed_turned k r x (model s) (model t) a.0 (ap model a.1) (λ d. absurd (both_ways (due r) u d))
