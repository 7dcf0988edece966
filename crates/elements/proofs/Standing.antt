-- How an answer came about, and octets that stand between two places.
use Rattle.std.proofs.Common.{◌≡◌, ℕ, zero, suc, ◌+◌, ◌*◌, ◌/◌, ◌%◌, ◌<◌, ◌≤◌, Bool, true, false, cond, ◌⊎◌, List, [], ◌∷◌, ◌++◌, length, get_or, take, drop, Ok, Err, Result, sym, refl, ap, ◌∙◌, inl, inr, append_assoc, add-zero, arith, take-add}
use Rattle.std.proofs.lemmas.List.{take_more, get_or-append-add}
use Rattle.cbsp.specs.Octets.{two_at}
use Rattle.elements.specs.Octets.{Octets, two, then, raised}

pub when_ok : {A E : Type 0} (b : Bool) (x : Result A E) (e : E) (v : A) → cond b x (Err e) ≡ Ok v → (b ≡ true) × (x ≡ Ok v)
when_ok true x e v p = (refl, p)
when_ok false x e v p = let z : ◌≡◌ {A = ℕ} 0 1 = cc in absurd (omega arith)

pub cond_was : {A : Type 0} (b : Bool) (x y z : A) → cond b x y ≡ z → ((b ≡ true) × (x ≡ z)) ⊎ ((b ≡ false) × (y ≡ z))
cond_was true x y z p = inl (refl, p)
cond_was false x y z p = inr (refl, p)

pub then_ok : {A B E : Type 0} (r : Result A E) (f : A → Result B E) (v : B) → then r f ≡ Ok v → (a : A) × (r ≡ Ok a) × (f a ≡ Ok v)
then_ok (Ok a) f v p = (a, refl, p)
then_ok (Err e) f v p = let z : ◌≡◌ {A = ℕ} 0 1 = cc in absurd (omega arith)

pub same_ok : {A E : Type 0} (x y : A) → ◌≡◌ {A = Result A E} (Ok x) (Ok y) → x ≡ y
same_ok x y p = cc

pub not_ok : {A E : Type 0} (e : E) (y : A) → ◌≡◌ {A = Result A E} (Err e) (Ok y) → ⊥
not_ok e y p = let z : ◌≡◌ {A = ℕ} 0 1 = cc in omega arith

pub raised_ok : {A E F : Type 0} (g : E → F) (r : Result A E) (v : A) → raised g r ≡ Ok v → r ≡ Ok v
raised_ok g (Ok x) v p = ap Ok (same_ok _ _ p)
raised_ok g (Err e) v p = absurd (not_ok _ _ p)

pub two_octets : (a b : ℕ) → b < 256 → two (a * 256 + b) ≡ a ∷ b ∷ []
two_octets a b h =
    let p : (a * 256 + b) / 256 ≡ a = omega arith in
    let q : (a * 256 + b) % 256 ≡ b = omega arith in
    cc

-- the octets xs stand between two places, the second not past `end`
pub record Stands (os : List ℕ) (at end : ℕ) (xs : List ℕ) (next : ℕ) : Type 0 where
  pub spelt : take next os ≡ take at os ++ xs
  pub from : at ≤ next
  pub within : next ≤ end

pub joins :
    (os : List ℕ) (at mid end : ℕ) (xs ys : List ℕ) (next : ℕ) → Stands os at end xs mid → Stands os mid end ys next → Stands os at end (xs ++ ys) next
joins os at mid end xs ys next p q =
    record { spelt = q.spelt ∙ ap (λ (t : List ℕ). t ++ ys) p.spelt ∙ append_assoc (take at os) xs ys; from = omega arith; within = q.within }

pub octet_stands : (os : List ℕ) (at end : ℕ) → at < end → end ≤ length os → Stands os at end (get_or os at 0 ∷ []) (at + 1)
octet_stands os at end h l = record { spelt = take_more os at 0 (omega arith); from = omega arith; within = omega arith }

pub two_stands : (os : List ℕ) (at end : ℕ) → Octets os → at + 2 ≤ end → end ≤ length os → Stands os at end (two (two_at os at)) (at + 2)
two_stands os at end o h l =
    let p = joins os at (at + 1) end _ _ (at + 1 + 1) (octet_stands os at end (omega arith) l) (octet_stands os (at + 1) end (omega arith) l) in
    let e : at + 1 + 1 ≡ at + 2 = omega arith in
    rw (two_octets (get_or os at 0) (get_or os (at + 1) 0) (o (at + 1))) (rw e at p)

pub part_stands : (os : List ℕ) (at n end : ℕ) → at + n ≤ end → end ≤ length os → Stands os at end (take n (drop at os)) (at + n)
part_stands os at n end h l = record { spelt = take-add at n os; from = omega arith; within = h }

-- what is read of a number that was spelt
pub two_append : (pre ys : List ℕ) (n : ℕ) → two_at (pre ++ ys) (length pre + n) ≡ two_at ys n
two_append pre ys n =
    let a : get_or (pre ++ ys) (length pre + n) 0 ≡ get_or ys n 0 = get_or-append-add pre ys n 0 in
    let e : length pre + n + 1 ≡ length pre + (n + 1) = omega arith in
    let b : get_or (pre ++ ys) (length pre + n + 1) 0 ≡ get_or ys (n + 1) 0 = ap (λ (i : ℕ). get_or (pre ++ ys) i 0) e ∙ get_or-append-add pre ys (n + 1) 0 in
    cc

two_back : (n : ℕ) → n / 256 * 256 + n % 256 ≡ n
two_back n = omega arith

pub two_here : (pre : List ℕ) (n : ℕ) (ys : List ℕ) → two_at (pre ++ (two n ++ ys)) (length pre) ≡ n
two_here pre n ys =
    ap (two_at (pre ++ (two n ++ ys))) (sym (add-zero (length pre))) ∙ two_append pre (two n ++ ys) 0 ∙ two_back n

pub two_later : (pre : List ℕ) (m n : ℕ) (ys : List ℕ) → two_at (pre ++ (two m ++ (two n ++ ys))) (length pre + 2) ≡ n
two_later pre m n ys = two_append pre (two m ++ (two n ++ ys)) 2 ∙ two_back n

pub octets_take : (n : ℕ) (os : List ℕ) → Octets os → Octets (take n os)
octets_take zero os o k = omega arith
octets_take (suc n) [] o k = omega arith
octets_take (suc n) (x ∷ xs) o zero = o 0
octets_take (suc n) (x ∷ xs) o (suc k) = octets_take n xs (λ (i : ℕ). o (suc i)) k
