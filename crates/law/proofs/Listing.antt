-- The lists of a reply, read at one cell: a cell stands in a list as what came of the request there says, and nowhere else.
use Rattle.std.proofs.Common.{◌≡◌, ℕ, ◌+◌, ◌*◌, ◌/◌, ◌%◌, ◌<◌, ◌≤◌, Bool, true, false, cond, not, ◌||◌, eqb, ltb, List, [], ◌∷◌, map, length, is_some, Some, None, Option, unwrap_or, sym, refl, ap, ◌∙◌, arith}
use Rattle.std.proofs.Math.Bool.{or-false}
use Rattle.std.proofs.lemmas.Bool.{ltb-false, both_ways}
use Rattle.answering.specs.Replies.{begun_list, completed_list, failed_list}
use Rattle.book.specs.Book.{counts_at, overflows_at}
use Rattle.book.specs.Told.{means, is_listed}
use Rattle.cells.specs.declared.cell.Cell.{Cell}
use Rattle.cells.specs.declared.cell.Identity.{Identity}
use Rattle.cells.specs.File.{identities, Apart}
use Rattle.elements.specs.declared.cause.Cause.{Cause}
use Rattle.elements.specs.Octets.{mapped}
use Rattle.lists.specs.declared.cell.CellIdentity.{CellIdentity}
use Rattle.lists.specs.declared.kinds.CellEntry.{CellEntry}
use Rattle.lists.specs.declared.kinds.CompletedEntry.{CompletedEntry}
use Rattle.lists.specs.declared.kinds.FailedEntry.{FailedEntry}
use Rattle.lists.specs.declared.kinds.Info.TheVariants.{Exact, Overflow}
use Rattle.lists.specs.Kinds.{cell_meant, completed_meant, failed_meant, info_code}
use Rattle.outcomes.specs.Tells.{outcome_at, AllSound}
use Rattle.replies.specs.Lists.{before, begun_by, begun_entry, completed_by, completed_entry, failed_by, failed_entry, whom_in, identity_at, count_field}
use Rattle.table.specs.declared.outcome.Outcome.{Outcome}
use Rattle.law.specs.Calls.{entry_at}
use Rattle.law.proofs.Entries.{any_overflow, at_cell, count_sum, counts_by, entries_of, entry_for, listed_by, nowhere, overflows_by, some_entry}
use Rattle.law.proofs.Meaning.{same_cell}

-- what an outcome, if there is one, has in each list
abbrev pub begins : Option Outcome → Bool
begins None = false
begins (Some o) = not (is_some o.cause)

abbrev pub fails : Option Outcome → Bool
fails None = false
fails (Some o) = is_some o.cause

abbrev pub ends : Option Outcome → Bool
ends None = false
ends (Some o) = is_some o.ended

-- the count of what ended was told whole
abbrev pub Whole : Option Outcome → Type 0
Whole p = (o : Outcome) (n : ℕ) → p ≡ Some o → o.ended ≡ Some n → n ≤ 65535

abbrev pub end_count : Option Outcome → ℕ
end_count None = 0
end_count (Some o) = unwrap_or (mapped count_field o.ended) 0

-- the three lists
begun_cell : (c : CellIdentity) (cause : Option Cause) (x : CellEntry) → begun_by c cause ≡ Some x → x.cell ≡ c
begun_cell c None x e = cc
begun_cell c (Some cause) x e = absurd cc

completed_cell : (c : CellIdentity) (n : Option ℕ) (x : CompletedEntry) → completed_by c n ≡ Some x → x.cell ≡ c
completed_cell c None x e = absurd cc
completed_cell c (Some n) x e = cc

failed_cell : (c : CellIdentity) (cause : Option Cause) (x : FailedEntry) → failed_by c cause ≡ Some x → x.cell ≡ c
failed_cell c None x e = absurd cc
failed_cell c (Some cause) x e = cc

begun_some : (cells : List Cell) (p : Option Outcome) → some_entry (map cell_meant (entry_for (begun_entry cells) p)) ≡ begins p
begun_some cells None = refl
begun_some cells (Some o) = go o.cause
  where
    go : (c : Option Cause) → some_entry (map cell_meant (before (begun_by (whom_in cells o.whom) c) [])) ≡ not (is_some c)
    go None = refl
    go (Some c) = refl

failed_some : (cells : List Cell) (p : Option Outcome) → some_entry (map failed_meant (entry_for (failed_entry cells) p)) ≡ fails p
failed_some cells None = refl
failed_some cells (Some o) = go o.cause
  where
    go : (c : Option Cause) → some_entry (map failed_meant (before (failed_by (whom_in cells o.whom) c) [])) ≡ is_some c
    go None = refl
    go (Some c) = refl

-- kept: the one of elements does not end in + 0
two_back : (n : ℕ) → n / 256 * 256 + n % 256 + 0 ≡ n
two_back n = omega arith

completed_some :
    (cells : List Cell) (p : Option Outcome)
    → (some_entry (map completed_meant (entry_for (completed_entry cells) p)) ≡ ends p) × (count_sum (map completed_meant (entry_for (completed_entry cells) p)) ≡ end_count p)
completed_some cells None = (refl, refl)
completed_some cells (Some o) = go o.ended
  where
    go : (n : Option ℕ) → (some_entry (map completed_meant (before (completed_by (whom_in cells o.whom) n) [])) ≡ is_some n) × (count_sum (map completed_meant (before (completed_by (whom_in cells o.whom) n) [])) ≡ unwrap_or (mapped count_field n) 0)
    go None = (refl, refl)
    go (Some n) = (refl, two_back (count_field n))

-- an entry that is not marked overflow has its count whole
whole_count : (c : CellIdentity) (n : ℕ) → any_overflow (map completed_meant (before (completed_by c (Some n)) [])) ≡ false → n ≤ 65535
whole_count c n h = go (ltb 65535 n) refl h
  where
    go : (b : Bool) → ltb 65535 n ≡ b → (eqb (info_code (cond b Overflow Exact)) 1 || false) ≡ false → n ≤ 65535
    go true q h = absurd (both_ways true h refl)
    go false q h = ltb-false 65535 n q

-- what the lists of a reply say of cell k: by what came of the request there
pub record Reads (cells : List Cell) (out : List Outcome) (k : ℕ) : Type 0 where
  pub begun : is_listed (identities cells k) (begun_list cells out) ≡ begins (outcome_at k out)
  pub completed : is_listed (identities cells k) (completed_list cells out) ≡ ends (outcome_at k out)
  pub failed : is_listed (identities cells k) (failed_list cells out) ≡ fails (outcome_at k out)
  pub counts : counts_at (identities cells k) (completed_list cells out) ≡ end_count (outcome_at k out)
  pub whole : overflows_at (identities cells k) (completed_list cells out) ≡ false → Whole (outcome_at k out)

-- the cells are apart, the outcomes sound, k a cell
module _ (cells : List Cell) (out : List Outcome) (k : ℕ) (apart : Apart cells) (sound : AllSound cells out) (there : k < length cells) where
  completed_at : entries_of (identities cells k) (completed_list cells out) ≡ map completed_meant (entry_for (completed_entry cells) (outcome_at k out))
  completed_at = at_cell cells (completed_entry cells) completed_meant (λ o x e. completed_cell (whom_in cells o.whom) o.ended x e) out k apart sound there

  listed_begun : is_listed (identities cells k) (begun_list cells out) ≡ begins (outcome_at k out)
  listed_begun =
      listed_by (identities cells k) (begun_list cells out)
      ∙ ap some_entry (at_cell cells (begun_entry cells) cell_meant (λ o x e. begun_cell (whom_in cells o.whom) o.cause x e) out k apart sound there)
      ∙ begun_some cells (outcome_at k out)

  listed_completed : is_listed (identities cells k) (completed_list cells out) ≡ ends (outcome_at k out)
  listed_completed = listed_by (identities cells k) (completed_list cells out) ∙ ap some_entry completed_at ∙ (completed_some cells (outcome_at k out)).0

  listed_failed : is_listed (identities cells k) (failed_list cells out) ≡ fails (outcome_at k out)
  listed_failed =
      listed_by (identities cells k) (failed_list cells out)
      ∙ ap some_entry (at_cell cells (failed_entry cells) failed_meant (λ o x e. failed_cell (whom_in cells o.whom) o.cause x e) out k apart sound there)
      ∙ failed_some cells (outcome_at k out)

  counts_completed : counts_at (identities cells k) (completed_list cells out) ≡ end_count (outcome_at k out)
  counts_completed = counts_by (identities cells k) (completed_list cells out) ∙ ap count_sum completed_at ∙ (completed_some cells (outcome_at k out)).1

  -- a count that is not marked overflow is told whole
  told_whole :
      overflows_at (identities cells k) (completed_list cells out) ≡ false → (o : Outcome) (n : ℕ) → outcome_at k out ≡ Some o → o.ended ≡ Some n → n ≤ 65535
  told_whole h o n p e =
      let a : any_overflow (map completed_meant (entry_for (completed_entry cells) (outcome_at k out))) ≡ false
      = ap any_overflow (sym completed_at) ∙ sym (overflows_by (identities cells k) (completed_list cells out)) ∙ h in
      let b : any_overflow (map completed_meant (before (completed_entry cells o) [])) ≡ false
      = ap (λ (x : Option Outcome). any_overflow (map completed_meant (entry_for (completed_entry cells) x))) (sym p) ∙ a in
      whole_count (whom_in cells o.whom) n (ap (λ (x : Option ℕ). any_overflow (map completed_meant (before (completed_by (whom_in cells o.whom) x) []))) (sym e) ∙ b)

  pub lists_read : Reads cells out k
  lists_read = record { begun = listed_begun; completed = listed_completed; failed = listed_failed; counts = counts_completed; whole = told_whole }

-- an identity that no cell has is in no list of cells
pub absent_begun :
    (cells : List Cell) (out : List Outcome) (i : Identity) → AllSound cells out → ((k : ℕ) → k < length cells → identities cells k ≡ i → ⊥)
    → is_listed i (begun_list cells out) ≡ false
absent_begun cells out i s h = nowhere cells (begun_entry cells) cell_meant (λ o x e. begun_cell (whom_in cells o.whom) o.cause x e) (λ e. refl) out i s h

pub absent_completed :
    (cells : List Cell) (out : List Outcome) (i : Identity) → AllSound cells out → ((k : ℕ) → k < length cells → identities cells k ≡ i → ⊥)
    → is_listed i (completed_list cells out) ≡ false
absent_completed cells out i s h =
    nowhere cells (completed_entry cells) completed_meant (λ o x e. completed_cell (whom_in cells o.whom) o.ended x e) (λ e. refl) out i s h

-- RESTART: the Cell List of one cell
pub one_listed :
    (cells : List Cell) (j k : ℕ) → Apart cells → j < length cells → k < length cells → is_listed (identities cells k) (entry_at cells j ∷ []) ≡ eqb k j
one_listed cells j k apart lj lk = or-false (means (identities cells k) (identity_at cells j)) ∙ same_cell cells k j apart lk lj
