-- The entries of a list that mean one cell, where each entry is made from an outcome.
use Rattle.std.proofs.Common.{◌≡◌, ℕ, ◌+◌, ◌<◌, Bool, true, false, cond, ◌&&◌, ◌||◌, List, [], ◌∷◌, map, length, Some, None, filter, Option, sym, refl, ap, ◌∙◌, inl, inr, arith}
use Rattle.std.proofs.lemmas.Bool.{or_from, cond-true, cond-false, cases_Bool}
use Rattle.book.specs.Book.{counts_at, overflows_at}
use Rattle.book.specs.Told.{means, is_listed, count_in, overflows}
use Rattle.cells.specs.declared.cell.Cell.{Cell}
use Rattle.cells.specs.declared.cell.Identity.{Identity}
use Rattle.cells.specs.File.{identities, same_identity, Apart}
use Rattle.lists.specs.declared.cell.CellIdentity.{CellIdentity}
use Rattle.lists.specs.Entries.{Entry}
use Rattle.naming.specs.declared.naming.Naming.{Naming}
use Rattle.naming.specs.declared.naming.Naming.TheVariants as naming
use Rattle.outcomes.specs.Tells.{is_of, outcome_at, SoundFor, AllSound}
use Rattle.replies.specs.Lists.{before, picked, whom_in}
use Rattle.table.specs.declared.outcome.Outcome.{Outcome}
use Rattle.table.specs.Outcomes.{no_cell}
use Rattle.naming.proofs.Alone.{same_decides}
use Rattle.law.proofs.Meaning.{alone, meant_by}

-- the entries of a list that mean an identity
abbrev pub entries_of : Identity → List Entry → List Entry
entries_of i es = filter (λ e. means i e.cell) es

abbrev pub some_entry : List Entry → Bool
some_entry [] = false
some_entry (e ∷ es) = true

abbrev pub count_sum : List Entry → ℕ
count_sum [] = 0
count_sum (e ∷ es) = count_in e + count_sum es

abbrev pub any_overflow : List Entry → Bool
any_overflow [] = false
any_overflow (e ∷ es) = overflows e || any_overflow es

pub listed_by : (i : Identity) (es : List Entry) → is_listed i es ≡ some_entry (entries_of i es)
listed_by i [] = refl
listed_by i (e ∷ es) = go (listed_by i es) (means i e.cell)
  where
    go : is_listed i es ≡ some_entry (entries_of i es) → (b : Bool) → (b || is_listed i es) ≡ some_entry (cond b (e ∷ entries_of i es) (entries_of i es))
    go ih true = refl
    go ih false = ih

pub counts_by : (i : Identity) (es : List Entry) → counts_at i es ≡ count_sum (entries_of i es)
counts_by i [] = refl
counts_by i (e ∷ es) = go (counts_by i es) (means i e.cell)
  where
    go : counts_at i es ≡ count_sum (entries_of i es) → (b : Bool) → cond b (count_in e) 0 + counts_at i es ≡ count_sum (cond b (e ∷ entries_of i es) (entries_of i es))
    go ih true = omega arith
    go ih false = omega arith

pub overflows_by : (i : Identity) (es : List Entry) → overflows_at i es ≡ any_overflow (entries_of i es)
overflows_by i [] = refl
overflows_by i (e ∷ es) = go (overflows_by i es) (means i e.cell)
  where
    go : overflows_at i es ≡ any_overflow (entries_of i es) → (b : Bool) → (b && overflows e || overflows_at i es) ≡ any_overflow (cond b (e ∷ entries_of i es) (entries_of i es))
    go ih true = ap (λ (x : Bool). overflows e || x) ih
    go ih false = ih

-- the entry of an outcome, if there is one
abbrev pub entry_for : {X : Type 0} → (Outcome → Option X) → Option Outcome → List X
entry_for entry None = []
entry_for entry (Some o) = before (entry o) []

-- a list made of the entries that outcomes have, each with its outcome's cell
module _ {X : Type 0} (cells : List Cell) (entry : Outcome → Option X) (meant : X → Entry) (named : (o : Outcome) (x : X) → entry o ≡ Some x → (meant x).cell ≡ whom_in cells o.whom) where
  pub at_cell : (out : List Outcome) (k : ℕ) → Apart cells → AllSound cells out → k < length cells → entries_of (identities cells k) (map meant (picked entry out)) ≡ map meant (entry_for entry (outcome_at k out))
  at_cell [] k apart s l = refl
  at_cell (o ∷ os) k apart s l = go (at_cell os k apart s.1 l) (is_of k o.whom) refl (entry o) refl
    where
      meant_here : (x : X) → entry o ≡ Some x → means (identities cells k) (meant x).cell ≡ is_of k o.whom
      meant_here x r = ap (means (identities cells k)) (named o x r) ∙ meant_by cells k o os apart l o.whom s.0

      none_left : entries_of (identities cells k) (map meant (picked entry os)) ≡ map meant (entry_for entry (outcome_at k os)) → is_of k o.whom ≡ true → entries_of (identities cells k) (map meant (picked entry os)) ≡ []
      none_left ih q = ih ∙ ap (λ (p : Option Outcome). map meant (entry_for entry p)) (alone cells k o os o.whom s.0 q)

      go : entries_of (identities cells k) (map meant (picked entry os)) ≡ map meant (entry_for entry (outcome_at k os))
          → (b : Bool) → is_of k o.whom ≡ b → (x : Option X) → entry o ≡ x
          → entries_of (identities cells k) (map meant (before x (picked entry os))) ≡ map meant (entry_for entry (cond b (Some o) (outcome_at k os)))
      go ih true q None r = none_left ih q ∙ ap (λ (p : Option X). map meant (before p [])) (sym r)
      go ih true q (Some x) r =
          cond-true _ _ _ (meant_here x r ∙ q)
          ∙ ap (λ (es : List Entry). meant x ∷ es) (none_left ih q)
          ∙ ap (λ (p : Option X). map meant (before p [])) (sym r)
      go ih false q None r = ih
      go ih false q (Some x) r = cond-false _ _ _ (meant_here x r ∙ q) ∙ ih

  -- no entry where outcomes of no cell have none, for an identity that no cell has
  pub nowhere : ((e : CellIdentity) → entry (no_cell e) ≡ None) → (out : List Outcome) (i : Identity) → AllSound cells out → ((k : ℕ) → k < length cells → identities cells k ≡ i → ⊥) → is_listed i (map meant (picked entry out)) ≡ false
  nowhere none [] i s h = refl
  nowhere none (o ∷ os) i s h = go (nowhere none os i s.1 h) (entry o) refl
    where
      other : (w : Naming) → SoundFor cells o os w → (x : X) → entry o ≡ Some x → means i (whom_in cells w) ≡ false
      other (naming.Cell j) t x r =
          elim (cases_Bool (same_identity i (identities cells j))) [
            | inl e ↦ absurd (h j t.0 (sym ((same_decides i (identities cells j)).0 e)))
            | inr e ↦ e
          ]
      other (naming.NoCell e) t x r = absurd (let z : ◌≡◌ {A = ℕ} 0 1 = cc (t.0, none e) in let h : ⊥ = omega arith in h)

      go : is_listed i (map meant (picked entry os)) ≡ false → (x : Option X) → entry o ≡ x → is_listed i (map meant (before x (picked entry os))) ≡ false
      go ih None r = ih
      go ih (Some x) r = or_from _ _ (ap (means i) (named o x r) ∙ other o.whom s.0 x r) ih
