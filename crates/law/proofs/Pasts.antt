-- A message of the table says by its wait and its count what its past says.
use Rattle.std.proofs.Common.{◌≡◌, ℕ, zero, suc, ◌+◌, ◌-◌, ◌^◌, ◌<◌, ◌≤◌, Bool, true, ◌&&◌, ◌||◌, eqb, ltb, ◌⊎◌, List, [], ◌∷◌, take, sym, refl, ap, ◌∙◌, inl, inr, arith}
use Rattle.std.proofs.lemmas.Bool.{and_from, and_parts, both_ways, eq-eqb, ne_eqb}
use Rattle.cbsp.specs.declared.channel.Channel.{Channel}
use Rattle.rows.specs.declared.row.Row.{Row}
use Rattle.rows.specs.Sweep.{due, lowered}
use Rattle.site.specs.Model.{Model}
use Rattle.law.specs.Law.{Fair, booked_of}
use Rattle.law.specs.Standing.{Standing, is_due, total}
use Rattle.law.proofs.Turning.{Blocked, Moved}
use Rattle.law.proofs.Turning.Moved.{went, stayed}

-- the wait that a past leaves, with p periods between two broadcasts
abbrev pub wait_of : ℕ → List ℕ → ℕ
wait_of p [] = 0
wait_of p (zero ∷ ns) = wait_of p ns - 1
wait_of p (suc n ∷ ns) = p

-- the row keeps what the past says
pub record Keeps (s : Standing) (r : Row) : Type 0 where
  pub message : booked_of r ≡ s.wanted.message
  pub period : r.period ≡ s.wanted.period
  pub requested : r.requested ≡ s.wanted.requested
  pub count : r.count ≡ total s.past
  pub wait : r.wait ≡ wait_of s.wanted.period s.past

wait_le : (p : ℕ) (ns : List ℕ) → wait_of p ns ≤ p
wait_le p [] = omega arith
wait_le p (zero ∷ ns) = omega (arith, wait_le p ns)
wait_le p (suc n ∷ ns) = omega arith

total_none : (n : ℕ) → total (take n []) ≡ 0
total_none zero = refl
total_none (suc n) = refl

-- after j further periods the wait is over exactly where it did not go out in the p - j periods before
over : (p j : ℕ) (ns : List ℕ) → eqb (wait_of p ns - j) 0 ≡ eqb (total (take (p - j) ns)) 0
over p j [] = eq-eqb (0 - j) 0 (omega arith) ∙ sym (eq-eqb _ 0 (total_none (p - j)))
over p j (suc m ∷ ns) = go (p - j)
  where
    go : (n : ℕ) → eqb n 0 ≡ eqb (total (take n (suc m ∷ ns))) 0
    go zero = refl
    go (suc n) = ne_eqb (suc n) 0 (λ q. let h : ⊥ = omega arith in h) ∙ sym (ne_eqb (suc m + total (take n ns)) 0 (λ q. let h : ⊥ = omega arith in h))
over p j (zero ∷ ns) = go (over p (j + 1) ns) (p - j) refl
  where
    go : eqb (wait_of p ns - (j + 1)) 0 ≡ eqb (total (take (p - (j + 1)) ns)) 0 → (n : ℕ) → p - j ≡ n → eqb ((wait_of p ns - 1) - j) 0 ≡ eqb (total (take n (zero ∷ ns))) 0
    go ih zero e = eq-eqb ((wait_of p ns - 1) - j) 0 (omega (arith, wait_le p ns))
    go ih (suc n) e =
        let a : (wait_of p ns - 1) - j ≡ wait_of p ns - (j + 1) = omega arith in
        let b : p - (j + 1) ≡ n = omega arith in
        let z : total (take n ns) ≡ 0 + total (take n ns) = omega arith in
        ap (λ (x : ℕ). eqb x 0) a ∙ ih ∙ ap (λ (x : ℕ). eqb (total (take x ns)) 0) b ∙ ap (λ (x : ℕ). eqb x 0) z

-- the table offers what the moments call due
due_is : (s : Standing) (r : Row) → Keeps s r → due (lowered r) ≡ is_due s
due_is s r k =
    rw (k.wait, k.count, k.requested)
    (ap (λ (b : Bool). b && (eqb s.wanted.requested 0 || ltb (total s.past) s.wanted.requested)) (over s.wanted.period 1 s.past))

-- one period more
pub keeps_on : (k : ℕ) (n : Model) (s : Standing) (r t : Row) → Keeps s r → Moved k n (lowered r) t → Keeps (record { wanted = s.wanted; past = (t.count - r.count) ∷ s.past }) t
keeps_on k n s r t h (went e d p) =
    let q : t.count - r.count ≡ suc zero = omega (arith, ap (λ (x : Row). x.count) e) in
    rw (q, e) (record { message = h.message; period = h.period; requested = h.requested; count = omega (arith, h.count); wait = h.period })
keeps_on k n s r t h (stayed e f) =
    let q : t.count - r.count ≡ zero = omega (arith, ap (λ (x : Row). x.count) e) in
    rw (q, e) (record { message = h.message; period = h.period; requested = h.requested; count = omega (arith, h.count); wait = ap (λ (x : ℕ). x - 1) h.wait })

-- it went out as it must, since the site's counts are far from full and its cell is one of the 64
pub fair :
    (k : ℕ) (n : Model) (s : Standing) (r t : Row) → k < 64 → ((h : Channel) → n.count k h < 2 ^ 48) → Keeps s r → Moved k n (lowered r) t
    → Fair (n.opened k) (n.room k) s (t.count - r.count)
fair k n s r t l b h (went e d p) =
    let c : t.count ≡ r.count + 1 = ap (λ (x : Row). x.count) e in
    record {
      served = λ _. inl (omega arith);
      spared = λ q. absurd (both_ways (n.opened k && is_due s) q (and_from _ _ p (sym (due_is s r h) ∙ d)));
    }
fair k n s r t l b h (stayed e f) =
    let c : t.count ≡ r.count = ap (λ (x : Row). x.count) e in
    record {
      served = λ q. let a = and_parts (n.opened k) (is_due s) q in go (omega arith) a.0 (f (due_is s r h ∙ a.1));
      spared = λ _. omega arith;
    }
  where
    go : t.count - r.count ≡ 0 → n.opened k ≡ true → Blocked k r.channel n → (t.count - r.count ≡ 1) ⊎ ((t.count - r.count ≡ 0) × (n.room k ≡ 0))
    go z o (inl x) = absurd (both_ways (n.opened k) x o)
    go z o (inr (inl x)) = inr (z, x)
    go z o (inr (inr (inl x))) = absurd (let y = b r.channel in let l : ⊥ = omega (arith, x, y) in l)
    go z o (inr (inr (inr x))) = absurd (let l : ⊥ = omega (arith, x, l) in l)
