-- Marks that are set one after the other.
use Rattle.std.proofs.Common.{◌≡◌, ℕ, zero, suc, ◌+◌, ◌<◌, ◌≤◌, Bool, true, false, cond, eqb, List, [], ◌∷◌, ◌++◌, length, get_or, set, replicate, fold, sym, refl, ap, ◌∙◌, subst, le_of_suc-le-suc, not-suc-le-zero, arith, length-append}
use Rattle.std.proofs.lemmas.Bool.{and_parts, eqb-true, ltb-true}
use Rattle.cells.specs.declared.cell.Cell.{Cell}
use Rattle.lists.specs.declared.cell.CellIdentity.{CellIdentity}
use Rattle.naming.specs.declared.naming.Naming.TheVariants as naming
use Rattle.naming.specs.Marks.{clear_marks, is_clear}
use Rattle.naming.specs.Names.{names}
use Rattle.naming.specs.Namings.{Stage, at_most, entered, is_some, noted, stage}

pub fewer_at : (ms : List ℕ) (k : ℕ) → k < length ms → get_or ms k 0 ≡ 0 → clear_marks (set ms k 1) + 1 ≡ clear_marks ms
fewer_at [] k l e = absurd (not-suc-le-zero l)
fewer_at (m ∷ ms) zero l e =
    let z : eqb m 0 ≡ true = subst (λ (x : ℕ). eqb x 0 ≡ true) (sym e) refl in
    rw z (omega arith)
fewer_at (m ∷ ms) (suc k) l e = let more = fewer_at ms k (le_of_suc-le-suc l) e in omega arith

pub all_clear : (n : ℕ) → clear_marks (replicate n 0) ≡ n
all_clear zero = refl
all_clear (suc n) = let more = all_clear n in omega arith

named : (s : Stage) (k : ℕ) → at_most (noted s k) ≡ at_most s
named s k = go (is_clear s.marks k) refl
  where
    go : (b : Bool) → is_clear s.marks k ≡ b → length (cond b (s.out ++ naming.Cell k ∷ []) s.out) + clear_marks (cond b (set s.marks k 1) s.marks) ≡ length s.out + clear_marks s.marks
    go false e = refl
    go true e =
        let parts = and_parts _ _ e in
        let fewer = fewer_at s.marks k (ltb-true _ _ parts.0) (eqb-true _ _ parts.1) in
        rw length-append (omega (arith, fewer))

all_named : (ks : List ℕ) (s : Stage) → at_most (fold noted s ks) ≡ at_most s
all_named [] s = refl
all_named (k ∷ ks) s = all_named ks (noted s k) ∙ named s k

-- a cell that is named leaves one mark less to set and brings one naming, or nothing changes
pub at_most_noted : (s t : Stage) (k : ℕ) → t ≡ noted s k → at_most t ≡ at_most s
at_most_noted s t k e = ap (λ (u : Stage). at_most u) e ∙ named s k

-- an entry brings one naming more at most
pub at_most_entered : (cs : List Cell) (s t : Stage) (e : CellIdentity) → t ≡ entered cs s e → at_most t ≤ at_most s + 1
at_most_entered cs s t e q = rw q (go (is_some (names cs e)))
  where
    go : (b : Bool) → at_most (cond b (fold noted s (names cs e)) (stage s.marks (s.out ++ naming.NoCell e ∷ []))) ≤ at_most s + 1
    go true = let same = all_named (names cs e) s in omega (arith, same)
    go false = rw length-append (omega arith)
