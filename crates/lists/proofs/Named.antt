-- Lists whose entries all name their cell by location area code and cell identity: they fit, and each entry has one width.
use Rattle.std.proofs.Common.{◌≡◌, ℕ, suc, ◌+◌, ◌*◌, ◌≤◌, Bool, true, false, List, [], ◌∷◌, length, sym, refl, ap, ◌∙◌, subst, add-mul, arith, length-append}
use Rattle.std.proofs.lemmas.Bool.{and_from, eq-eqb, le-leb}
use Rattle.std.specs.List.{AllByRecursion}
use Rattle.lists.specs.declared.cell.CellIdentity.{CellIdentity}
use Rattle.lists.specs.declared.cell.CellIdentity.TheVariants as cell
use Rattle.lists.specs.Cells.{form_of, cell_octets}
use Rattle.lists.specs.Entries.{Entry, Kind, Sound, formed, entry_fits, own_form, spell_entry, spell_entries}
use Rattle.lists.specs.Lists.{every, list_fits}

-- an entry of the kind by location area code and cell identity
pub record ByName (k : Kind) (e : Entry) : Type 0 where
  pub form : form_of e.cell ≡ 1
  pub good : Sound k e

formed_one : (b : Bool) (d : ℕ) → d ≡ 1 → formed b 1 d ≡ true
formed_one true d e = eq-eqb d 1 e
formed_one false d e = refl

entry_fits_lem : (k : Kind) (e : Entry) → k.forms 1 ≡ true → ByName k e → entry_fits k 1 e ≡ true
entry_fits_lem k e f n =
    and_from _ _ (formed_one k.headed (form_of e.cell) n.form)
    (and_from _ _ (subst (λ (d : ℕ). k.forms d ≡ true) (sym n.form) f) (and_from _ _ (eq-eqb _ _ n.good.width) n.good.unbroken))

every_fits : (k : Kind) (es : List Entry) → k.forms 1 ≡ true → AllByRecursion (ByName k) es → every (entry_fits k 1) es ≡ true
every_fits k [] f a = refl
every_fits k (e ∷ es) f a = and_from _ _ (entry_fits_lem k e f a.0) (every_fits k es f a.1)

pub named_fits : (k : Kind) (es : List Entry) → k.forms 1 ≡ true → AllByRecursion (ByName k) es → 1 ≤ length es → length es ≤ k.most → list_fits k es ≡ true
named_fits k [] f a l m = absurd (omega arith)
named_fits k (e ∷ es) f a l m =
    and_from _ _ (and_from _ _ (le-leb 1 (length (e ∷ es)) l) (le-leb (length (e ∷ es)) k.most m))
    (subst (λ (d : ℕ). every (entry_fits k d) (e ∷ es) ≡ true) (sym a.0.form) (every_fits k (e ∷ es) f a))

four : (c : CellIdentity) → form_of c ≡ 1 → length (cell_octets c) ≡ 4
four (cell.LacCi l c) e = refl
four (cell.Ci c) e = absurd (omega arith)
four (cell.Lac l) e = absurd (omega arith)
four cell.All e = absurd (omega arith)

own_length : (b : Bool) (d d' : ℕ) → length (own_form b d) ≡ length (own_form b d')
own_length true d d' = refl
own_length false d d' = refl

entry_wide : (k : Kind) (e : Entry) → ByName k e → length (spell_entry k e) ≡ length (own_form k.headed 1) + 4 + k.tail
entry_wide k e n =
    let a : length (spell_entry k e) ≡ length (own_form k.headed (form_of e.cell)) + (length (cell_octets e.cell) + length e.tail) = simp length-append in
    omega (arith, own_length k.headed (form_of e.cell) 1, four e.cell n.form, n.good.width)

suc_times : (m n : ℕ) → suc m * n ≡ n + m * n
suc_times m n = let e : suc m ≡ m + 1 = omega arith in ap (λ (i : ℕ). i * n) e ∙ add-mul m 1 n ∙ omega arith

pub named_wide : (k : Kind) (es : List Entry) (w : ℕ) → w ≡ length (own_form k.headed 1) + 4 + k.tail → AllByRecursion (ByName k) es → length (spell_entries k es) ≡ length es * w
named_wide k [] w q a = omega arith
named_wide k (e ∷ es) w q a =
    let l : length (spell_entries k (e ∷ es)) ≡ length (spell_entry k e) + length (spell_entries k es) = length-append (spell_entry k e) (spell_entries k es) in
    let s : suc (length es) * w ≡ w + length es * w = suc_times (length es) w in
    l ∙ ap (λ (n : ℕ). n + length (spell_entries k es)) (entry_wide k e a.0 ∙ sym q) ∙ ap (λ (n : ℕ). w + n) (named_wide k es w q a.1) ∙ sym s
