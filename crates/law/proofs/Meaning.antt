-- Which cell an entry of a reply means: those of an outcome the outcome's cell, and those that name no cell none.
use Rattle.std.proofs.Common.{◌≡◌, ℕ, zero, suc, ◌+◌, ◌<◌, Bool, true, false, cond, eqb, List, [], ◌∷◌, length, get_or, None, Decides, refl, ap, ◌∙◌, arith}
use Rattle.std.proofs.lemmas.Bool.{eqb-true, both_ways}
use Rattle.std.proofs.lemmas.Bool.Decides.{same_from_decides, Decides-eqb, Decides-like}
use Rattle.book.specs.Told.{means}
use Rattle.cells.specs.declared.cell.Cell.{Cell}
use Rattle.cells.specs.File.{identities, same_identity, Apart}
use Rattle.lists.specs.declared.cell.CellIdentity.{CellIdentity}
use Rattle.lists.specs.declared.cell.CellIdentity.TheVariants.{LacCi, Ci, Lac, All}
use Rattle.naming.specs.declared.naming.Naming.{Naming}
use Rattle.naming.specs.declared.naming.Naming.TheVariants as naming
use Rattle.naming.specs.Names.{is_found, names_from, names_only_first, names}
use Rattle.naming.proofs.Alone.{past, same_decides}
use Rattle.outcomes.specs.Tells.{is_of, outcome_at, SoundFor}
use Rattle.replies.specs.Lists.{whom_in, identity_at}
use Rattle.table.specs.declared.outcome.Outcome.{Outcome}

-- cells that are apart are meant by their own entries alone
pub same_cell : (cells : List Cell) (k j : ℕ) → Apart cells → k < length cells → j < length cells → means (identities cells k) (identity_at cells j) ≡ eqb k j
same_cell cells k j apart lk lj =
    same_from_decides (same_identity (identities cells k) (identities cells j)) (eqb k j)
    (Decides-like (same_identity (identities cells k) (identities cells j)) (apart k j lk lj) (λ e. ap (identities cells) e) (same_decides (identities cells k) (identities cells j)))
    (Decides-eqb k j)

-- an entry that names no cell finds none
none_found : (e : CellIdentity) (n : ℕ) (cells : List Cell) (k : ℕ) → names_from e n cells ≡ [] → k < length cells → is_found e (get_or cells k past) ≡ false
none_found e n [] k h l = absurd (omega arith)
none_found e n (c ∷ cs) k h l = go (λ j q m. none_found e (n + 1) cs j q m) (is_found e c) refl h k l
  where
    go : ((j : ℕ) → names_from e (n + 1) cs ≡ [] → j < length cs → is_found e (get_or cs j past) ≡ false) → (b : Bool) → is_found e c ≡ b → cond b (n ∷ cond (names_only_first e) [] (names_from e (n + 1) cs)) (names_from e (n + 1) cs) ≡ [] → (k : ℕ) → k < length (c ∷ cs) → is_found e (get_or (c ∷ cs) k past) ≡ false
    go ih true q h k l = absurd cc
    go ih false q h zero l = q
    go ih false q h (suc k) l = ih k h (omega arith)

pub not_meant : (cells : List Cell) (k : ℕ) (e : CellIdentity) → names cells e ≡ [] → k < length cells → means (identities cells k) e ≡ false
not_meant cells k (LacCi lac ci) h l = none_found (LacCi lac ci) 0 cells k h l
not_meant cells k (Ci ci) h l = refl
not_meant cells k (Lac lac) h l = refl
not_meant cells k All h l = refl

-- a sound outcome's entry means just the cell that it is of, and no later outcome is of that cell
pub meant_by : (cells : List Cell) (k : ℕ) (o : Outcome) (os : List Outcome) → Apart cells → k < length cells → (w : Naming) → SoundFor cells o os w → means (identities cells k) (whom_in cells w) ≡ is_of k w
meant_by cells k o os apart l (naming.Cell j) s = same_cell cells k j apart l s.0
meant_by cells k o os apart l (naming.NoCell e) s = not_meant cells k e s.1 l

pub alone : (cells : List Cell) (k : ℕ) (o : Outcome) (os : List Outcome) (w : Naming) → SoundFor cells o os w → is_of k w ≡ true → outcome_at k os ≡ None
alone cells k o os (naming.Cell j) s q = rw (eqb-true k j q) s.1
alone cells k o os (naming.NoCell e) s q = absurd (both_ways false refl q)
