-- A loop over elements that are told by a function of them, as the cells are by their messages.
-- A loop here changes the rows and the site together, and no chain of the library is proved of such a loop.
use Rattle.std.proofs.Common.{◌≡◌, ℕ, ◌+◌, ◌<◌, List, map, length, get_or, take, drop, set, sym, ◌∙◌, subst, arith}
use Rattle.std.specs.List.{AllByRecursion}
use Rattle.std.proofs.ByRecursion.{All-get_or}
use Rattle.std.proofs.lemmas.List.{length-map, map-set, get_or-map}
use Rattle.rows.specs.Linked.{Linked}
use Rattle.rows.proofs.Linking.{same_at, rest_more, linked_more}

-- what holds of all elements holds of one that has not had its turn
pub all_at : {X : Type 0} (P : X → Type 0) (xs ys : List X) (i : ℕ) (d : X) → i < length xs → drop i ys ≡ drop i xs → AllByRecursion P xs → P (get_or ys i d)
all_at P xs ys i d l rest a = subst P (sym (same_at xs ys i d rest)) (All-get_or P xs i d l a)

module _ {A X : Type 0} (f : A → X) (cs ds : List A) (i : ℕ) (d : A) (e : X) (l : i < length cs) (long : length ds ≡ length cs) (rest : drop i (map f ds) ≡ drop i (map f cs)) where
  pub told_all_at : (P : X → Type 0) → AllByRecursion P (map f cs) → P (f (get_or ds i d))
  told_all_at P a =
      let within : i < length (map f cs) = rw length-map l in
      subst P (get_or-map f ds i d e (omega arith)) (all_at P (map f cs) (map f ds) i e within rest a)

  pub told_rest : (x : A) → drop (i + 1) (map f (set ds i x)) ≡ drop (i + 1) (map f cs)
  told_rest x = rw map-set (rest_more (map f cs) (map f ds) i (f x) rest)

  pub told_more : {S : Type 0} (R : ℕ → X → S → X → S → Type 0) (x : A) (s u t : S) → Linked R 0 (take i (map f cs)) s (take i (map f ds)) u → R i (f (get_or ds i d)) u (f x) t → Linked R 0 (take (i + 1) (map f cs)) s (take (i + 1) (map f (set ds i x))) t
  told_more R x s u t a b =
      let within : i < length (map f cs) = rw length-map l in
      let same : length (map f ds) ≡ length (map f cs) = length-map ds f ∙ long ∙ sym (length-map cs f) in
      rw map-set (linked_more R (map f cs) (map f ds) i e (f x) s u t within same rest a (subst (λ (y : X). R i y u (f x) t) (sym (get_or-map f ds i d e (omega arith))) b))
