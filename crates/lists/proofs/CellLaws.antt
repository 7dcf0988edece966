-- The laws of the Cell List.
use Rattle.std.proofs.Common.{◌≡◌, ℕ, ◌+◌, ◌<◌, ◌≤◌, true, false, cond, ◌&&◌, ◌||◌, eqb, ltb, List, [], ◌∷◌, ◌++◌, length, get_or, take, Ok, Err, Result, sym, refl, ap, ◌∙◌, subst, inl, inr, arith}
use Rattle.std.proofs.lemmas.Bool.{eqb-true, ltb-true, lt-ltb, eq-eqb, and_parts, and_right, cond-false, cases_Bool}
use Rattle.elements.specs.declared.faults.ElementFault.{ElementFault}
use Rattle.elements.specs.declared.faults.ElementFault.TheVariants.{OutOfRange}
use Rattle.elements.specs.Octets.{Octets, then}
use Rattle.elements.specs.Codec.{BodyLaws}
use Rattle.elements.proofs.Standing.{when_ok, cond_was, then_ok, same_ok, not_ok, octet_stands}
use Rattle.lists.specs.Cells.{form_of}
use Rattle.lists.specs.Entries.{Entry, spell_entries}
use Rattle.lists.specs.Kinds.{cell_kind}
use Rattle.lists.specs.Lists.{end_of, read_list, lengthed}
use Rattle.lists.specs.CellLists.{CellsV, all, named, as_named, read_cells, cells_octets, cells_fit, cell_list}
use Rattle.lists.proofs.Back.{fit}
use Rattle.lists.proofs.ListLaws.{end_was, lengthed_stands, list_forth, end_back, third, list_back_all, placed}

abbrev Spelt : List ℕ → ℕ → CellsV × ℕ → Type 0
Spelt os body p = (take p.1 os ≡ take body os ++ lengthed (cells_octets p.0)) × (p.1 ≤ length os) × (cells_fit p.0 ≡ true)

named_was :
    (r : Result (List Entry × ℕ) ElementFault) (p : CellsV × ℕ) → as_named r ≡ Ok p → (q : List Entry × ℕ) × (r ≡ Ok q) × ((named q.0, q.1) ≡ p)
named_was (Ok q) p e = (q, refl, same_ok _ _ e)
named_was (Err f) p e = absurd (not_ok _ _ e)

cells_forth : (os : List ℕ) (at body : ℕ) (p : CellsV × ℕ) → Octets os → read_cells os at body ≡ Ok p → Spelt os body p
cells_forth os at body p o e =
    let t = then_ok (end_of os at body) _ p e in
    let end : ℕ = t.0 in
    let w = end_was os at body end t.1 in
    elim (cond_was (ltb (body + 2) end && eqb (get_or os (body + 2) 0) 6) _ _ _ t.2) [
      | inl a ↦
          let z = and_parts _ _ a.0 in
          let b = when_ok (eqb (body + 3) end) _ _ _ a.1 in
          let n : body + 3 ≡ end = eqb-true _ _ b.0 in
          let l : body + 2 < end = ltb-true _ _ z.0 in
          let i : body + 2 + 1 ≡ end = omega arith in
          let j : take end os ≡ take (body + 2) os ++ (6 ∷ [])
          = ap (λ (m : ℕ). take m os) (sym i) ∙ (octet_stands os (body + 2) end l w.2).spelt ∙ ap (λ (m : ℕ). take (body + 2) os ++ (m ∷ [])) (eqb-true _ _ z.1) in
          subst (Spelt os body) (same_ok _ _ b.1) (lengthed_stands os body end (6 ∷ []) o (omega arith) w.2 w.1 j, w.2, refl)
      | inr a ↦
          let b = named_was (read_list cell_kind os at body) p a.1 in
          subst (Spelt os body) b.2 (list_forth cell_kind os at body b.0 o b.1)
    ]

cells_steps :
    (os : List ℕ) (at body end : ℕ) (p : CellsV × ℕ) → end_of os at body ≡ Ok end
    → cond (ltb (body + 2) end && eqb (get_or os (body + 2) 0) 6) (cond (eqb (body + 3) end) (Ok (all, end)) (Err (OutOfRange body))) (as_named (read_list cell_kind os at body)) ≡ Ok p
    → read_cells os at body ≡ Ok p
cells_steps os at body end p a b =
    let f : ℕ → Result (CellsV × ℕ) ElementFault
    = λ n. cond (ltb (body + 2) n && eqb (get_or os (body + 2) 0) 6) (cond (eqb (body + 3) n) (Ok (all, n)) (Err (OutOfRange body))) (as_named (read_list cell_kind os at body)) in
    ap (λ (r : Result ℕ ElementFault). then r f) a ∙ b

-- no entry of a Cell List has the discriminator of all cells
not_six : (d : ℕ) → (eqb d 1 || (eqb d 2 || eqb d 5)) ≡ true → eqb d 6 ≡ false
not_six d p =
    elim (cases_Bool (eqb d 6)) [
      | inl q ↦ let e : (eqb 6 1 || (eqb 6 2 || eqb 6 5)) ≡ true = subst (λ (n : ℕ). (eqb n 1 || (eqb n 2 || eqb n 5)) ≡ true) (eqb-true d 6 q) p in
          let z : ◌≡◌ {A = ℕ} 0 1 = cc in absurd (omega arith)
      | inr q ↦ q
    ]

cells_back :
    (pre post : List ℕ) (at : ℕ) (v : CellsV) → cells_fit v ≡ true
    → read_cells (pre ++ (lengthed (cells_octets v) ++ post)) at (length pre) ≡ Ok (v, length pre + 2 + length (cells_octets v))
cells_back pre post at all f =
    let d = third pre 1 6 post in
    let e : length pre + 2 + 1 ≡ length pre + 3 = omega arith in
    cells_steps _ at (length pre) (length pre + 2 + 1) (all, length pre + 2 + 1) (end_back pre (6 ∷ []) post at)
    (rw (lt-ltb (length pre + 2) (length pre + 2 + 1) (omega arith), d, eq-eqb (length pre + 3) (length pre + 2 + 1) (sym e)))
cells_back pre post at (named []) f = let z : ◌≡◌ {A = ℕ} 0 1 = cc in absurd (omega arith)
cells_back pre post at (named (e ∷ es)) f =
    let xs : List ℕ = cells_octets (named (e ∷ es)) in
    let end : ℕ = length pre + 2 + length xs in
    let d = third pre (length xs) (form_of e.cell) (spell_entries cell_kind (e ∷ es) ++ post) in
    let g = fit cell_kind (form_of e.cell) e (and_parts _ _ (and_parts _ _ f).1).0 in
    cells_steps _ at (length pre) end (named (e ∷ es), end) (end_back pre xs post at)
    (cond-false _ _ _ (and_right _ _ (ap (λ (n : ℕ). eqb n 6) d ∙ not_six (form_of e.cell) g.may_form)) ∙ ap as_named (list_back_all cell_kind pre post at (e ∷ es) f))

pub cells_laws : BodyLaws cell_list
cells_laws = record {
  body_forth = λ os at body v next o l e. cells_forth os at body (v, next) o e;
  body_back = λ pre post at v f. cells_back pre post at v f ∙ ap (λ (i : ℕ). Ok (v, i)) (placed (cells_octets v) pre);
}
