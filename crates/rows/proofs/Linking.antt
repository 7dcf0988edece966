-- A loop that changes the elements of a list one after the other.
-- A loop here changes the rows and the site together, and no chain of the library is proved of such a loop.
use Rattle.std.proofs.Common.{◌≡◌, ℕ, ◌+◌, ◌<◌, List, [], ◌∷◌, ◌++◌, length, get_or, take, drop, set, sym, refl, ap, ◌∙◌, subst, add-zero, arith}
use Rattle.std.proofs.lemmas.List.{take_more, take_more_set, drop-set-lt, drop-drop, get_or-drop, length-take-le}
use Rattle.rows.specs.Linked.{Linked}

-- what stands at i, where two lists agree from i on
pub same_at : {X : Type 0} (xs ys : List X) (i : ℕ) (d : X) → drop i ys ≡ drop i xs → get_or ys i d ≡ get_or xs i d
same_at {X} xs ys i d e =
    let a : get_or (drop i ys) 0 d ≡ get_or ys i d = rw add-zero at (get_or-drop i ys 0 d) in
    let b : get_or (drop i xs) 0 d ≡ get_or xs i d = rw add-zero at (get_or-drop i xs 0 d) in
    sym a ∙ ap (λ (l : List X). get_or l 0 d) e ∙ b

-- and from the next place on, once i is written
pub rest_more : {X : Type 0} (xs ys : List X) (i : ℕ) (x : X) → drop i ys ≡ drop i xs → drop (i + 1) (set ys i x) ≡ drop (i + 1) xs
rest_more {X} xs ys i x e =
    drop-set-lt (i + 1) ys i x (omega arith) ∙ sym (drop-drop 1 i ys) ∙ ap (λ (l : List X). drop 1 l) e ∙ drop-drop 1 i xs

module _ {X S : Type 0} (R : ℕ → X → S → X → S → Type 0) where
  push : (n m : ℕ) (xs ys : List X) (x y : X) (s u t : S) → n + length xs ≡ m → Linked R n xs s ys u → R m x u y t → Linked R n (xs ++ x ∷ []) s (ys ++ y ∷ []) t
  push n m [] [] x y s u t e a b =
      let same : m ≡ n = omega arith in
      (t, subst (λ (v : S). R n x v y t) a (subst (λ (k : ℕ). R k x u y t) same b), refl)
  push n m [] (q ∷ qs) x y s u t e a b = absurd a
  push n m (p ∷ ps) [] x y s u t e a b = absurd a
  push n m (p ∷ ps) (q ∷ qs) x y s u t e a b = (a.0, a.1, push (n + 1) m ps qs x y a.0 u t (omega arith) a.2 b)

  -- one turn of the loop at place i: the elements before it are done, the others are as they were
  pub linked_more : (xs ys : List X) (i : ℕ) (d y : X) (s u t : S) → i < length xs → length ys ≡ length xs → drop i ys ≡ drop i xs → Linked R 0 (take i xs) s (take i ys) u → R i (get_or ys i d) u y t → Linked R 0 (take (i + 1) xs) s (take (i + 1) (set ys i y)) t
  linked_more xs ys i d y s u t l long rest a b =
      let size : length (take i xs) ≡ i = length-take-le i xs (omega arith) in
      rw (take_more xs i d l, take_more_set ys i y (omega arith))
      (push 0 i (take i xs) (take i ys) (get_or xs i d) y s u t (omega arith) a (subst (λ (x : X). R i x u y t) (same_at xs ys i d rest) b))
