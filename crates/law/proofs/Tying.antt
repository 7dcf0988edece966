-- Two lists tied place by place, and what keeps the tie.
use Rattle.std.proofs.Common.{◌≡◌, Bool, true, false, cond, List, [], ◌∷◌, ◌++◌, refl}
use Rattle.book.specs.Book.{without_first}
use Rattle.rows.specs.Keys.{without}
use Rattle.law.specs.Law.{Tied}

module _ {X Y : Type 0} (R : X → Y → Type 0) where
  -- the first that passes is taken out of both
  pub tied_without :
      (p : X → Bool) (q : Y → Bool) → ((x : X) (y : Y) → R x y → p x ≡ q y) → (xs : List X) (ys : List Y) → Tied R xs ys
      → Tied R (without_first p xs) (without q ys)
  tied_without p q f [] [] t = tt
  tied_without p q f [] (y ∷ ys) t = absurd t
  tied_without p q f (x ∷ xs) [] t = absurd t
  tied_without p q f (x ∷ xs) (y ∷ ys) t = rw (f x y t.0) (go (tied_without p q f xs ys t.1) (q y))
    where
      go : Tied R (without_first p xs) (without q ys) → (b : Bool) → Tied R (cond b xs (x ∷ without_first p xs)) (cond b ys (y ∷ without q ys))
      go ih true = t.1
      go ih false = (t.0, ih)

  -- one is added to both
  pub tied_push : (xs : List X) (ys : List Y) (x : X) (y : Y) → Tied R xs ys → R x y → Tied R (xs ++ x ∷ []) (ys ++ y ∷ [])
  tied_push [] [] x y t r = (r, tt)
  tied_push [] (b ∷ ys) x y t r = absurd t
  tied_push (a ∷ xs) [] x y t r = absurd t
  tied_push (a ∷ xs) (b ∷ ys) x y t r = (t.0, tied_push xs ys x y t.1 r)

  -- both are emptied, or neither
  pub tied_emptied : (b : Bool) (xs : List X) (ys : List Y) → Tied R xs ys → Tied R (cond b [] xs) (cond b [] ys)
  tied_emptied true xs ys t = tt
  tied_emptied false xs ys t = t

-- the same either way
pub either : {A : Type 0} (b : Bool) (x : A) → cond b x x ≡ x
either true x = refl
either false x = refl

-- a weaker tie
pub tied_weaker : {X Y : Type 0} (R Q : X → Y → Type 0) → ((x : X) (y : Y) → R x y → Q x y) → (xs : List X) (ys : List Y) → Tied R xs ys → Tied Q xs ys
tied_weaker R Q f [] [] t = tt
tied_weaker R Q f [] (y ∷ ys) t = absurd t
tied_weaker R Q f (x ∷ xs) [] t = absurd t
tied_weaker R Q f (x ∷ xs) (y ∷ ys) t = (f x y t.0, tied_weaker R Q f xs ys t.1)
