-- The entries that are picked from what came of a request.
use Rattle.std.proofs.Common.{◌≡◌, ℕ, ◌+◌, ◌<◌, ◌≤◌, List, [], ◌∷◌, length, Some, None, Option, arith}
use Rattle.std.specs.List.{AllByRecursion}
use Rattle.outcomes.specs.Tells.{cell_count, of_cell}
use Rattle.replies.specs.Lists.{before, picked}
use Rattle.table.specs.declared.outcome.Outcome.{Outcome}

-- what stands is of a cell, and has a property
abbrev pub OfCell : {X : Type 0} → (X → Type 0) → ℕ → Option X → Type 0
OfCell P n None = Unit {0}
OfCell P n (Some x) = (n ≡ 1) × P x

module _ {X : Type 0} (entry : Outcome → Option X) where
  before_few : (x : Option X) (xs : List X) → length (before x xs) ≤ 1 + length xs
  before_few None xs = omega arith
  before_few (Some x) xs = omega arith

  pub picked_few : (out : List Outcome) → length (picked entry out) ≤ length out
  picked_few [] = omega arith
  picked_few (o ∷ os) = omega (arith, before_few (entry o) (picked entry os), picked_few os)

  -- entries of cells alone: all have the property, and there are no more than cells
  module _ (P : X → Type 0) where
    before_cells : (n m : ℕ) (x : Option X) (xs : List X) → OfCell P n x → AllByRecursion P xs → length xs ≤ m → AllByRecursion P (before x xs) × (length (before x xs) ≤ n + m)
    before_cells n m None xs g a l = (a, omega arith)
    before_cells n m (Some x) xs g a l = ((g.1, a), omega (arith, g.0))

    pub picked_cells : (out : List Outcome) → AllByRecursion (λ o. OfCell P (of_cell o.whom) (entry o)) out → AllByRecursion P (picked entry out) × (length (picked entry out) ≤ cell_count out)
    picked_cells [] g = (tt, omega arith)
    picked_cells (o ∷ os) g =
        let r = picked_cells os g.1 in
        before_cells (of_cell o.whom) (cell_count os) (entry o) (picked entry os) g.0 r.0 r.1

-- one of two stands
abbrev pub Either : {X Y : Type 0} → Option X → Option Y → Type 0
Either None None = ⊥
Either None (Some y) = Unit {0}
Either (Some x) y = Unit {0}

-- where every outcome has an entry in one of two lists and the second is empty, the first is not
module _ {X Y : Type 0} where
  first_stands : (x : Option X) (y : Option Y) (xs : List X) (ys : List Y) → Either x y → length (before y ys) ≡ 0 → 0 < length (before x xs)
  first_stands None None xs ys g e = absurd g
  first_stands None (Some y) xs ys g e = absurd (omega arith)
  first_stands (Some x) y xs ys g e = omega arith

  pub first_some :
      (a : Outcome → Option X) (b : Outcome → Option Y) (out : List Outcome) → AllByRecursion (λ o. Either (a o) (b o)) out → 0 < length out → length (picked b out) ≡ 0
      → 0 < length (picked a out)
  first_some a b [] g l e = absurd (omega arith)
  first_some a b (o ∷ os) g l e = first_stands (a o) (b o) (picked a os) (picked b os) g.0 e
