-- What is read, spelt, is what stands there.
use Rattle.std.proofs.Common.{◌≡◌, ℕ, zero, suc, ◌+◌, ◌-◌, ◌<◌, ◌≤◌, Bool, true, false, eqb, ltb, List, [], ◌∷◌, ◌++◌, length, get_or, take, drop, Some, None, Ok, Option, Result, sym, refl, ap, ◌∙◌, subst, inl, inr, append_assoc, append-nil, arith, length-drop}
use Rattle.std.proofs.lemmas.Bool.{leb-true, eqb-true, ltb-true, ltb-false, eq-eqb, and_from}
use Rattle.std.proofs.lemmas.List.{length-take-le}
use Rattle.std.specs.List.{AllByRecursion}
use Rattle.elements.specs.declared.faults.EntryFault.{EntryFault}
use Rattle.elements.specs.Octets.{Octets}
use Rattle.elements.proofs.Standing.{when_ok, cond_was, then_ok, same_ok, not_ok, Stands, joins, octet_stands, two_stands, part_stands}
use Rattle.lists.specs.declared.cell.CellIdentity.{CellIdentity}
use Rattle.lists.specs.Cells.{form_of, cell_octets, read_cell}
use Rattle.lists.specs.Entries.{Entry, Kind, spell_entry, spell_entries, read_tail, checked, read_entry, read_entries, form_at, own_form, formed, unflawed}
use Rattle.lists.specs.Laws.{EntryFits, ReadThenSpelt}
use Rattle.lists.proofs.Steps.{before_ok}

-- an identity
abbrev CellStands : ℕ → ℕ → List ℕ → ℕ → CellIdentity × ℕ → Type 0
CellStands form end os at p = Stands os at end (cell_octets p.0) p.1 × (form_of p.0 ≡ form)

cell_forth :
    (broken : EntryFault) (form end : ℕ) (os : List ℕ) (at : ℕ) (p : CellIdentity × ℕ) → Octets os → end ≤ length os → read_cell broken form end os at ≡ Ok p
    → CellStands form end os at p
cell_forth broken form end os at p o l e =
    elim (cond_was (eqb form 1) _ _ _ e) [
      | inl a ↦ let w = when_ok _ _ _ _ a.1 in
          let b : at + 4 ≤ end = leb-true _ _ w.0 in
          let n : at + 2 + 2 ≡ at + 4 = omega arith in
          subst (CellStands form end os at) (same_ok _ _ w.1)
          (rw n at (joins os at (at + 2) end _ _ (at + 2 + 2) (two_stands os at end o (omega arith) l) (two_stands os (at + 2) end o (omega arith) l)), sym (eqb-true form 1 a.0))
      | inr a ↦ elim (cond_was (eqb form 2) _ _ _ a.1) [
        | inl b ↦ let w = when_ok _ _ _ _ b.1 in
            subst (CellStands form end os at) (same_ok _ _ w.1) (two_stands os at end o (leb-true _ _ w.0) l, sym (eqb-true form 2 b.0))
        | inr b ↦ elim (cond_was (eqb form 5) _ _ _ b.1) [
          | inl d ↦ let w = when_ok _ _ _ _ d.1 in
              subst (CellStands form end os at) (same_ok _ _ w.1) (two_stands os at end o (leb-true _ _ w.0) l, sym (eqb-true form 5 d.0))
          | inr d ↦ let v = when_ok (eqb form 6) _ _ _ d.1 in
              let w = when_ok _ _ _ _ v.1 in
              let z = when_ok (eqb (get_or os at 0) 0) _ _ _ w.1 in
              let h : at + 1 ≤ end = leb-true _ _ w.0 in
              subst (CellStands form end os at) (same_ok _ _ z.1)
              (subst (λ (n : ℕ). Stands os at end (n ∷ []) (at + 1)) (eqb-true _ 0 z.0) (octet_stands os at end (omega arith) l), sym (eqb-true form 6 v.0))
        ]
      ]
    ]

-- an entry
form_stands :
    (b : Bool) (h : ℕ) (os : List ℕ) (at end : ℕ) → at < end → end ≤ length os
    → Stands os at end (own_form b (form_at b h os at).0) (form_at b h os at).1 × (formed b h (form_at b h os at).0 ≡ true)
form_stands true h os at end l m = (record { spelt = sym (append-nil (take at os)); from = omega arith; within = omega arith }, eq-eqb h h refl)
form_stands false h os at end l m = (octet_stands os at end l m, refl)

abbrev EntryStands : Kind → ℕ → ℕ → List ℕ → ℕ → Entry × ℕ → Type 0
EntryStands k h end os at p = Stands os at end (spell_entry k p.0) p.1 × EntryFits k h p.0

assembled :
    (k : Kind) (h end : ℕ) (os : List ℕ) (at form mid : ℕ) (q : CellIdentity × ℕ) → Stands os at end (own_form k.headed form) mid → formed k.headed h form ≡ true
    → k.forms form ≡ true → CellStands form end os mid q → q.1 + k.tail ≤ end → end ≤ length os → unflawed (k.flaw (take k.tail (drop q.1 os))) ≡ true
    → EntryStands k h end os at (record { cell = q.0; tail = take k.tail (drop q.1 os) }, q.1 + k.tail)
assembled k h end os at form mid q f g s n c m v =
    let e : form ≡ form_of q.0 = sym n.1 in
    let d : length (drop q.1 os) ≡ length os - q.1 = length-drop q.1 os in
    let own = subst (λ (x : ℕ). Stands os at end (own_form k.headed x) mid) e f in (
      joins os at mid end _ _ _ own (joins os mid q.1 end _ _ _ n.0 (part_stands os q.1 k.tail end c m)),
      and_from _ _ (subst (λ (x : ℕ). formed k.headed h x ≡ true) e g)
          (and_from _ _ (subst (λ (x : ℕ). k.forms x ≡ true) e s) (and_from _ _ (eq-eqb _ _ (length-take-le k.tail (drop q.1 os) (omega arith))) v)),
    )

checked_ok : (o : Option ℕ) (e : Entry) (at next : ℕ) (p : Entry × ℕ) → checked o e at next ≡ Ok p → (unflawed o ≡ true) × ((e, next) ≡ p)
checked_ok None e at next p q = (refl, same_ok _ _ q)
checked_ok (Some i) e at next p q = absurd (not_ok _ _ q)

entry_forth :
    (k : Kind) (broken : EntryFault) (h end : ℕ) (os : List ℕ) (at : ℕ) (p : Entry × ℕ) → Octets os → at < end → end ≤ length os
    → read_entry k broken h end os at ≡ Ok p → EntryStands k h end os at p
entry_forth k broken h end os at p o l m e =
    let form : ℕ = (form_at k.headed h os at).0 in
    let mid : ℕ = (form_at k.headed h os at).1 in
    let s = when_ok (k.forms form) _ _ _ e in
    let t = then_ok (read_cell broken form end os mid) (read_tail k broken end os) p s.1 in
    let f = form_stands k.headed h os at end l m in
    let a = when_ok _ _ _ _ t.2 in
    let b = checked_ok (k.flaw (take k.tail (drop t.0.1 os))) _ _ _ p a.1 in
    subst (EntryStands k h end os at) b.1
    (assembled k h end os at form mid t.0 f.0 f.1 s.0 (cell_forth broken form end os mid t.0 o m t.1) (leb-true _ _ a.0) m b.0)

-- the entries
abbrev AllStand : Kind → ℕ → ℕ → List ℕ → ℕ → ℕ → List Entry → Type 0
AllStand k h end os room at es = (take end os ≡ take at os ++ spell_entries k es) × (length es ≤ room) × AllByRecursion (EntryFits k h) es

none_stand :
    (k : Kind) (h end : ℕ) (os : List ℕ) (room at : ℕ) (es : List Entry) → at ≤ end → (ltb at end ≡ false) × (◌≡◌ {A = Result (List Entry) EntryFault} (Ok []) (Ok es))
    → AllStand k h end os room at es
none_stand k h end os room at es l p =
    let q : end ≡ at = omega (arith, ltb-false at end p.0) in
    subst (AllStand k h end os room at) (same_ok _ _ p.1) (ap (λ (n : ℕ). take n os) q ∙ sym (append-nil (take at os)), omega arith, tt)

pub entries_forth : ReadThenSpelt
entries_forth k broken h end os zero at es o l m e =
    elim (cond_was (ltb at end) _ _ _ e) [
      | inl p ↦ absurd (not_ok _ _ p.1)
      | inr p ↦ none_stand k h end os 0 at es l p
    ]
entries_forth k broken h end os (suc room) at es o l m e =
    elim (cond_was (ltb at end) _ _ _ e) [
      | inl p ↦
          let t = then_ok (read_entry k broken h end os at) _ es p.1 in
          let b = before_ok t.0.0 (read_entries k broken h end os room t.0.1) es t.2 in
          let s = entry_forth k broken h end os at t.0 o (ltb-true at end p.0) m t.1 in
          let r = entries_forth k broken h end os room t.0.1 b.0 o s.0.within m b.1 in
          subst (AllStand k h end os (suc room) at) b.2 (
            r.0 ∙ ap (λ (x : List ℕ). x ++ spell_entries k b.0) s.0.spelt ∙ append_assoc (take at os) (spell_entry k t.0.0) (spell_entries k b.0),
            omega (arith, r.1),
            (s.1, r.2),
          )
      | inr p ↦ none_stand k h end os (suc room) at es l p
    ]
