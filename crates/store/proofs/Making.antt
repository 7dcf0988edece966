-- A vector that is filled by a closure, item by item.
use Rattle.std.proofs.Common.{◌≡◌, ℕ, List, [], ◌∷◌, ◌++◌, map, length, take, replicate, refl, ap, ◌∙◌, arith}
use Rattle.std.proofs.lemmas.List.{take_all}
use Rattle.std.specs.List.{AppendsResults, FoldsTo}

module _ {F X V : Type 0} (m : X → V) (v : V) (step : F → X → F → Type 0) (each : (p : F) (x : X) (q : F) → step p x q → m x ≡ v) where
  all_same : (f : F) (xs : List X) (last : F) → FoldsTo step f xs last → map m xs ≡ replicate (length xs) v
  all_same f [] last h = refl
  all_same f (x ∷ xs) last h =
      let here : m x ≡ v = each f x h.0 h.1 in
      let more : map m xs ≡ replicate (length xs) v = all_same h.0 xs last h.2 in
      cc

  -- n items were put into an empty vector, and each means the same
  pub filled : (f : F) (was is : List X) (k n : ℕ) → was ≡ [] → AppendsResults step (take k was) is f → length is ≡ n → map m is ≡ replicate n v
  filled f [] is k n e h l =
      let same = all_same f h.0 h.1 h.3 in
      let own : is ≡ h.0 = h.2 ∙ ap (λ (ys : List X). ys ++ h.0) (take_all k [] (omega arith)) in
      rw (← l, own) same
  filled f (x ∷ xs) is k n e h l = absurd (omega (arith, ap length e))

pub map_same : {X V : Type 0} (v : V) (xs : List X) → map (λ _. v) xs ≡ replicate (length xs) v
map_same v [] = refl
map_same v (x ∷ xs) = cc (map_same v xs)
