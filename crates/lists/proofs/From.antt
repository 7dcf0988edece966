-- One step of a view, and that a view of as many entries as were read has them.
use Rattle.std.proofs.Common.{◌≡◌, ℕ, zero, suc, ◌+◌, ◌-◌, ◌<◌, ◌≤◌, ltb, List, [], ◌∷◌, ◌++◌, length, Ok, Err, Result, refl, ap, ◌∙◌, subst, inl, inr, arith, length-append}
use Rattle.std.proofs.lemmas.Bool.{lt-ltb, le-ltb, ltb-true}
use Rattle.elements.specs.declared.faults.EntryFault.{EntryFault}
use Rattle.lists.specs.Entries.{Entry, Kind, read_entry, read_entries, prefixed}
use Rattle.elements.proofs.Standing.{cond_was, then_ok, same_ok, not_ok}
use Rattle.lists.proofs.Steps.{before_ok}
use Rattle.lists.proofs.Steps.{inv-more}
use Rattle.lists.specs.Views.{entries_from}

module _ (k : Kind) (broken : EntryFault) (h end : ℕ) (os : List ℕ) where
  pub from_none : (left at : ℕ) → left ≡ 0 → entries_from k broken h end os left at ≡ []
  unfolding entries_from
  from_none left at e = rw e

  pub from_done : (left at : ℕ) → end ≤ at → entries_from k broken h end os left at ≡ []
  unfolding entries_from
  from_done zero at l = refl
  from_done (suc left) at l = rw (le-ltb at end l)

  pub from_fault : (left at : ℕ) (f : EntryFault) → read_entry k broken h end os at ≡ Err f → at < end → entries_from k broken h end os left at ≡ []
  unfolding entries_from
  from_fault zero at f e l = refl
  from_fault (suc left) at f e l = rw (lt-ltb at end l, e)

  pub from_more :
      (left at next : ℕ) (e : Entry) → 0 < left → at < end → read_entry k broken h end os at ≡ Ok (e, next)
      → entries_from k broken h end os left at ≡ e ∷ entries_from k broken h end os (left - 1) next
  unfolding entries_from
  from_more zero at next e p l q = absurd (omega arith)
  from_more (suc left) at next e p l q = let s : suc left - 1 ≡ left = omega arith in rw (lt-ltb at end l, q, s)

  -- what was read is what a view of so many has
  pub from_read : (room at : ℕ) (es : List Entry) → read_entries k broken h end os room at ≡ Ok es → entries_from k broken h end os (length es) at ≡ es
  from_read zero at es e =
      elim (cond_was (ltb at end) _ _ _ e) [
        | inl p ↦ absurd (not_ok _ _ p.1)
        | inr p ↦ subst (λ (x : List Entry). entries_from k broken h end os (length x) at ≡ x) (same_ok _ _ p.1) (from_none 0 at refl)
      ]
  from_read (suc room) at es e =
      elim (cond_was (ltb at end) _ _ _ e) [
        | inl p ↦
            let t = then_ok (read_entry k broken h end os at) _ es p.1 in
            let b = before_ok t.0.0 (read_entries k broken h end os room t.0.1) es t.2 in
            let r = from_read room t.0.1 b.0 b.1 in
            let s : suc (length b.0) - 1 ≡ length b.0 = omega arith in
            subst (λ (x : List Entry). entries_from k broken h end os (length x) at ≡ x) b.2
            (from_more (suc (length b.0)) at t.0.1 t.0.0 (omega arith) (ltb-true at end p.0) t.1
            ∙ ap (λ (n : ℕ). t.0.0 ∷ entries_from k broken h end os n t.0.1) s ∙ ap (λ (x : List Entry). t.0.0 ∷ x) r)
        | inr p ↦ subst (λ (x : List Entry). entries_from k broken h end os (length x) at ≡ x) (same_ok _ _ p.1) (from_none 0 at refl)
      ]

  pub counted :
      (room at n : ℕ) (es : List Entry) → length es ≡ n → read_entries k broken h end os room at ≡ Ok es
      → (read_entries k broken h end os room at ≡ Ok (entries_from k broken h end os n at)) × (length (entries_from k broken h end os n at) ≡ n)
  counted room at n es l e =
      let r : entries_from k broken h end os n at ≡ es = subst (λ (i : ℕ). entries_from k broken h end os i at ≡ es) l (from_read room at es e) in
      rw r (e, l)

-- some entries were read, and what is still read goes on from them
abbrev pub SoFar : Kind → EntryFault → ℕ → ℕ → List ℕ → Result (List Entry) EntryFault → ℕ → ℕ → ℕ → Type 0
SoFar k broken h end os R most count at = (done : List Entry) × (length done ≡ count) × (prefixed done (read_entries k broken h end os (most - count) at) ≡ R)

pub sofar_more :
    (k : Kind) (broken : EntryFault) (h end : ℕ) (os : List ℕ) (R : Result (List Entry) EntryFault) (most count at next : ℕ) (e : Entry)
    → SoFar k broken h end os R most count at → at < end → count < most → read_entry k broken h end os at ≡ Ok (e, next)
    → SoFar k broken h end os R most (count + 1) next
sofar_more k broken h end os R most count at next e i l m q =
    let n : most - (count + 1) ≡ most - count - 1 = omega arith in
    (i.0 ++ e ∷ [], omega (arith, length-append i.0 (e ∷ []), i.1), rw n (inv-more k broken h end os R i.0 (most - count) at next e i.2 l (omega arith) q))
