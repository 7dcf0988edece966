-- Parts written one after the other, from a list of which some are done and the rest is to come.
-- Kept: a loop here changes a writer while it takes what an iterator yields, and no chain of the library is proved of such a loop.
use Rattle.std.proofs.Common.{◌≡◌, ℕ, ◌+◌, ◌≤◌, List, [], ◌∷◌, ◌++◌, length, sym, refl, ap, ◌∙◌, subst, append_assoc, arith, length-append}
use Rattle.std.proofs.lemmas.List.{flat_map_more}
use Rattle.std.proofs.lemmas.List.Concat.{flat_map-append}
use Rattle.std.specs.List.{flat_map}
use Rattle.elements.specs.Octets.{Wrote}
use Rattle.elements.proofs.Puts.{wrote_none, wrote_then}

pub record Progress {X : Type 0} (f : X → List ℕ) (all rest : List X) (at : ℕ) (was is : List ℕ) (next : ℕ) : Type 0 where
  pub done : List X
  pub split : all ≡ done ++ rest
  pub wrote : Wrote (flat_map f done) at was is next

pub progress_none : {X : Type 0} (f : X → List ℕ) (all : List X) (at : ℕ) (os : List ℕ) → Progress f all all at os os at
progress_none f all at os = record { done = []; split = refl; wrote = wrote_none os at }

module _ {X : Type 0} (f : X → List ℕ) (all rest left : List X) (x : X) (at : ℕ) (was is : List ℕ) (next : ℕ) (e : rest ≡ x ∷ left) (p : Progress f all rest at was is next) where
  total : length (flat_map f all) ≡ length (flat_map f p.done) + (length (f x) + length (flat_map f left))
  total =
      let a : flat_map f all ≡ flat_map f p.done ++ (f x ++ flat_map f left) = ap (flat_map f) (p.split ∙ ap (λ (r : List X). p.done ++ r) e) ∙ flat_map-append f p.done (x ∷ left) in
      ap length a ∙ length-append (flat_map f p.done) (f x ++ flat_map f left) ∙ ap (λ (n : ℕ). length (flat_map f p.done) + n) (length-append (f x) (flat_map f left))

  pub progress_more : (then : List ℕ) (after : ℕ) → at + length (flat_map f all) ≤ length was → Wrote (f x) next is then after → Progress f all left at was then after
  progress_more then after h w = record {
    done = p.done ++ x ∷ [];
    split = p.split ∙ ap (λ (r : List X). p.done ++ r) e ∙ sym (append_assoc p.done (x ∷ []) left);
    wrote = subst (λ (t : List ℕ). Wrote t at was then after) (flat_map_more f [] p.done x) (wrote_then (flat_map f p.done) (f x) at was is then next after (omega (arith, total)) p.wrote w);
  }
