-- One after the other: the elements of a list are changed in turn, each from the state that the one before it left.
use Rattle.std.specs.Prelude.{◌≡◌, ℕ, ◌+◌, List, [], ◌∷◌}

-- R tells how the element of a number changed, and the state with it; the first element has number n
abbrev pub Linked : {X S : Type 0} → (ℕ → X → S → X → S → Type 0) → ℕ → List X → S → List X → S → Type 0
Linked R n [] s [] t = t ≡ s
Linked R n [] s (y ∷ ys) t = ⊥
Linked R n (x ∷ xs) s [] t = ⊥
Linked {X} {S} R n (x ∷ xs) s (y ∷ ys) t = (u : S) × R n x s y u × Linked R (n + 1) xs u ys t
