-- The names of an entry, one cell after the other.
use Rattle.std.proofs.Common.{◌≡◌, ℕ, ◌+◌, ◌<◌, Bool, true, false, cond, ◌||◌, List, [], ◌∷◌, length, get_or, drop, fold, sym, refl, ap, ◌∙◌}
use Rattle.std.proofs.lemmas.List.{at_drop_more}
use Rattle.std.proofs.lemmas.Bool.{or_right}
use Rattle.cells.specs.declared.cell.Cell.{Cell}
use Rattle.lists.specs.declared.cell.CellIdentity.{CellIdentity}
use Rattle.naming.specs.Names.{is_found, names_only_first, names_from, names}
use Rattle.naming.specs.Namings.{Stage, noted, is_some}
use Rattle.naming.specs.Walks.{behind}

-- before cell i: what is still named, after what came so far, is the whole
pub record Walked (e : CellIdentity) (cs : List Cell) (i : ℕ) (found : Bool) (s start : Stage) (next begun : ℕ) : Type 0 where
  pub folds : fold noted s (names_from e i (drop i cs)) ≡ fold noted start (names cs e)
  pub ends : behind e next (names_from e i (drop i cs)) ≡ behind e begun (names cs e)
  pub finds : (found || is_some (names_from e i (drop i cs))) ≡ is_some (names cs e)

or_true : (b : Bool) → (b || true) ≡ true
or_true b = or_right b true refl

module _ (e : CellIdentity) (cs : List Cell) (i : ℕ) (d : Cell) (found : Bool) (s start : Stage) (next begun : ℕ) where
  step : i < length cs → names_from e i (drop i cs) ≡ cond (is_found e (get_or cs i d)) (i ∷ cond (names_only_first e) [] (names_from e (i + 1) (drop (i + 1) cs))) (names_from e (i + 1) (drop (i + 1) cs))
  step l = at_drop_more (names_from e i) cs i d l

  stays : names_only_first e ≡ false → (ks : List ℕ) → behind e next ks ≡ next
  stays f [] = refl
  stays f (k ∷ ks) = rw f refl

  pub walk_skip : i < length cs → is_found e (get_or cs i d) ≡ false → Walked e cs i found s start next begun → Walked e cs (i + 1) found s start next begun
  walk_skip l n w =
      let same : names_from e i (drop i cs) ≡ names_from e (i + 1) (drop (i + 1) cs) = step l ∙ rw n in
      record {
        folds = ap (λ (ks : List ℕ). fold noted s ks) (sym same) ∙ w.folds;
        ends = ap (behind e next) (sym same) ∙ w.ends;
        finds = ap (λ (ks : List ℕ). found || is_some ks) (sym same) ∙ w.finds;
      }

  pub walk_take : i < length cs → is_found e (get_or cs i d) ≡ true → names_only_first e ≡ false → Walked e cs i found s start next begun → Walked e cs (i + 1) true (noted s i) start next begun
  walk_take l y f w =
      let same : names_from e i (drop i cs) ≡ i ∷ names_from e (i + 1) (drop (i + 1) cs) = step l ∙ rw (y, f) in
      record {
        folds = ap (λ (ks : List ℕ). fold noted s ks) (sym same) ∙ w.folds;
        ends = stays f (names_from e (i + 1) (drop (i + 1) cs)) ∙ sym (stays f (i ∷ names_from e (i + 1) (drop (i + 1) cs))) ∙ ap (behind e next) (sym same) ∙ w.ends;
        finds = sym (or_true found) ∙ ap (λ (ks : List ℕ). found || is_some ks) (sym same) ∙ w.finds;
      }
