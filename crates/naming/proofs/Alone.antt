-- An entry with the LAC and CI of a cell names that cell alone where no two cells have both in common.
use Rattle.std.proofs.Common.{◌≡◌, ℕ, zero, suc, ◌+◌, ◌<◌, Bool, true, false, ltb, eqb, List, [], ◌∷◌, length, get_or, Decides, refl, sym, ap, ◌∙◌, arith}
use Rattle.std.proofs.lemmas.Bool.{and_parts, ltb-true}
use Rattle.std.proofs.lemmas.Bool.Decides.{Decides-eqb, Decides-and, Decides-like}
use Rattle.cells.specs.declared.cell.Capability.TheVariants.{NoChannel}
use Rattle.cells.specs.declared.cell.Cell.{Cell}
use Rattle.cells.specs.declared.cell.Identity.{Identity}
use Rattle.cells.specs.File.{identities, same_identity, Apart}
use Rattle.lists.specs.declared.cell.CellIdentity.{CellIdentity}
use Rattle.lists.specs.declared.cell.CellIdentity.TheVariants.{LacCi, Ci, Lac, All}
use Rattle.naming.specs.Names.{is_found, names_only_first, names_from, names}
use Rattle.naming.specs.Walks.{behind, is_at}

-- two identities are one where both numbers agree
abbrev identity : ℕ → ℕ → Identity
identity lac ci = record { lac = lac; ci = ci }

same_identity_lem : (a b : Identity) → (a.lac ≡ b.lac) × (a.ci ≡ b.ci) → a ≡ b
same_identity_lem a b p = ap (λ (n : ℕ). identity n a.ci) p.0 ∙ ap (identity b.lac) p.1

pub same_decides : (a b : Identity) → Decides (same_identity a b) (a ≡ b)
same_decides a b =
    Decides-like (same_identity a b) (same_identity_lem a b)
    (λ e. (ap (λ (x : Identity). x.lac) e, ap (λ (x : Identity). x.ci) e))
    (Decides-and (eqb a.lac b.lac) (eqb a.ci b.ci) (Decides-eqb a.lac b.lac) (Decides-eqb a.ci b.ci))

-- stands for a cell behind the last
abbrev pub past : Cell
past = record { identity = record { lac = 0; ci = 0 }; capability = NoChannel }

-- where none before cell k may be meant, an entry for one cell names it
first_named : (e : CellIdentity) (n k m : ℕ) (cs : List Cell) → n + k ≡ m → names_only_first e ≡ true → k < length cs → is_found e (get_or cs k past) ≡ true → ((j : ℕ) → j < k → is_found e (get_or cs j past) ≡ false) → names_from e n cs ≡ m ∷ []
first_named e n k m [] at one l here none = absurd (omega (arith, l))
first_named e n zero m (c ∷ cs) at one l here none =
    let is : n ≡ m = omega (arith, at) in
    rw (here, one) (ap (λ i. i ∷ []) is)
first_named e n (suc k) m (c ∷ cs) at one l here none =
    rw (none 0 (omega arith)) (first_named e (n + 1) k m cs (omega (arith, at)) one (omega (arith, l)) here (λ j h. none (suc j) (omega (arith, h))))

module _ (cs : List Cell) (apart : Apart cs) (k : ℕ) where
  at_next : (lac ci : ℕ) → k < length cs → same_identity (identities cs k) (identity lac ci) ≡ true → names cs (LacCi lac ci) ≡ k ∷ []
  at_next lac ci l e = first_named (LacCi lac ci) 0 k k cs (omega arith) refl l e (λ j h. before j h (is_found (LacCi lac ci) (get_or cs j past)) refl)
    where
      is : identities cs k ≡ identity lac ci
      is = (same_decides (identities cs k) (identity lac ci)).0 e

      before : (j : ℕ) → j < k → (b : Bool) → is_found (LacCi lac ci) (get_or cs j past) ≡ b → b ≡ false
      before j h false q = refl
      before j h true q =
          let same = apart j k (omega (arith, h, l)) l ((same_decides (identities cs j) (identity lac ci)).0 q ∙ sym is) in
          absurd (omega (arith, h, same))

  -- no other cell is named
  pub named_alone : (e : CellIdentity) → is_at cs k e ≡ true → names cs e ≡ k ∷ []
  named_alone (LacCi lac ci) q =
      let parts = and_parts (ltb k (length cs)) (same_identity (identities cs k) (identity lac ci)) q in
      at_next lac ci (ltb-true k (length cs) parts.0) parts.1
  named_alone (Ci ci) q = absurd cc
  named_alone (Lac lac) q = absurd cc
  named_alone All q = absurd cc

-- the cell behind it is the next
pub next_behind : (cs : List Cell) (k : ℕ) (e : CellIdentity) → is_at cs k e ≡ true → behind e k (k ∷ []) ≡ k + 1
next_behind cs k (LacCi lac ci) q = refl
next_behind cs k (Ci ci) q = absurd cc
next_behind cs k (Lac lac) q = absurd cc
next_behind cs k All q = absurd cc
