-- A search from the front, and what stands at the place that it finds.
use Rattle.std.proofs.Common.{◌≡◌, ℕ, suc, ◌+◌, ◌<◌, Bool, true, false, cond, List, [], ◌∷◌, length, get_or, Some, None, sym, refl, ap, ◌∙◌, subst, zero-add, arith}
use Rattle.std.specs.List.{remove}
use Rattle.rows.specs.Keys.{place_from, place_of, first_of, without}

-- what a place that was found is
pub record Found {X : Type 0} (test : X → Bool) (xs : List X) (d : X) (i : ℕ) : Type 0 where
  pub within : i < length xs
  pub first : first_of test xs ≡ Some (get_or xs i d)
  pub rest : remove xs i ≡ without test xs

found : {X : Type 0} (test : X → Bool) (xs : List X) (d : X) (n p : ℕ) → place_from test n xs ≡ Some p → (i : ℕ) × (p ≡ n + i) × Found test xs d i
found test [] d n p e = absurd (let z : ◌≡◌ {A = ℕ} 0 1 = cc in let h : ⊥ = omega arith in h)
found {X} test (x ∷ xs) d n p e = go (found test xs d (n + 1) p) (test x) refl e
  where
    go : (place_from test (n + 1) xs ≡ Some p → (i : ℕ) × (p ≡ (n + 1) + i) × Found test xs d i) → (b : Bool) → test x ≡ b → cond b (Some n) (place_from test (n + 1) xs) ≡ Some p → (i : ℕ) × (p ≡ n + i) × Found test (x ∷ xs) d i
    go more true t q =
        let same : p ≡ n = cc in
        (0, (omega arith), record { within = omega arith; first = rw t; rest = rw t })
    go more false t q =
        let m = more q in
        (suc m.0, (omega (arith, m.1)), record { within = omega (arith, m.2.within); first = rw t m.2.first; rest = rw t (ap (λ (l : List X). x ∷ l) m.2.rest) })

pub found_at : {X : Type 0} (test : X → Bool) (xs : List X) (d : X) (p : ℕ) → place_of test xs ≡ Some p → Found test xs d p
found_at test xs d p e =
    let f = found test xs d 0 p e in
    subst (λ (i : ℕ). Found test xs d i) (sym (f.1 ∙ zero-add f.0)) f.2

-- where nothing passes, nothing goes
pub missing : {X : Type 0} (test : X → Bool) (xs : List X) (n : ℕ) → place_from test n xs ≡ None → (first_of test xs ≡ None) × (without test xs ≡ xs)
missing test [] n e = (refl, refl)
missing {X} test (x ∷ xs) n e = go (missing test xs (n + 1)) (test x) refl e
  where
    go : (place_from test (n + 1) xs ≡ None → (first_of test xs ≡ None) × (without test xs ≡ xs)) → (b : Bool) → test x ≡ b → cond b (Some n) (place_from test (n + 1) xs) ≡ None → (cond (test x) (Some x) (first_of test xs) ≡ None) × (cond (test x) xs (x ∷ without test xs) ≡ x ∷ xs)
    go more true t q = absurd (let z : ◌≡◌ {A = ℕ} 0 1 = cc in let h : ⊥ = omega arith in h)
    go more false t q = let m = more q in (rw t m.0, rw t (ap (λ (l : List X). x ∷ l) m.1))
