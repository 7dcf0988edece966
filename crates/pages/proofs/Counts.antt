-- Pages counted and measured.
use Rattle.std.proofs.Common.{◌≡◌, ℕ, ◌+◌, ◌*◌, ◌≤◌, Bool, true, false, cond, ◌&&◌, eqb, leb, List, [], ◌∷◌, ◌++◌, length, Some, None, sym, refl, ap, ◌∙◌, inl, inr, arith, length-append}
use Rattle.std.proofs.lemmas.Bool.{and_parts, and_from, and_right, eqb-true, leb-true, le-leb}
use Rattle.std.specs.List.{flat_map, list_all}
use Rattle.elements.specs.Codec.{Codec}
use Rattle.elements.specs.Elements.{within}
use Rattle.elements.specs.Parts.{number_of_pages, coding_scheme}
use Rattle.elements.specs.Writes.{limited}
use Rattle.elements.proofs.Standing.{cond_was}
use Rattle.pages.specs.declared.page.Page.{Page}
use Rattle.pages.specs.Pages.{page, page_count, each, repeated}

-- pages that can be spelt have 84 octets each
pub pages_wide : (ps : List Page) → each page.fits ps ≡ true → length (flat_map page.spell ps) ≡ 84 * length ps
pages_wide [] f = refl
pages_wide (p ∷ ps) f =
    let a = and_parts (page.fits p) (each page.fits ps) f in
    let b = and_parts (within 1 82 p.used) (eqb (length p.content) 82) a.0 in
    let c : length p.content ≡ 82 = eqb-true _ _ b.1 in
    let d : length (page.spell p ++ flat_map page.spell ps) ≡ length (page.spell p) + length (flat_map page.spell ps) = length-append (page.spell p) (flat_map page.spell ps) in
    omega (arith, d, pages_wide ps a.1)

-- pages that are counted can be spelt
each_all : (ps : List Page) → each page.fits ps ≡ list_all page.fits ps
each_all [] = refl
each_all (p ∷ ps) = ap (λ (b : Bool). page.fits p && b) (each_all ps)

pub unfit : (ps : List Page) → list_all page.fits ps ≡ false → page_count ps ≡ None
unfit ps e = ap (λ (b : Bool). cond b (Some (length ps)) None) (and_right _ _ (each_all ps ∙ e))

pub counted : (ps : List Page) (n : ℕ) → list_all page.fits ps ≡ true → n ≡ length ps → 1 ≤ n → n ≤ 15 → page_count ps ≡ Some n
counted ps n e m h l =
    let z : (within 1 15 (length ps) && each page.fits ps) ≡ true
    = and_from _ _ (and_from _ _ (le-leb 1 (length ps) (omega arith)) (le-leb (length ps) 15 (omega arith))) (each_all ps ∙ e) in
    ap (λ (b : Bool). cond b (Some (length ps)) None) z ∙ ap Some (sym m)

count_was : (ps : List Page) (n : ℕ) → Some n ≡ page_count ps → (within 1 15 (length ps) ≡ true) × (each page.fits ps ≡ true) × (length ps ≡ n)
count_was ps n e =
    elim (cond_was (within 1 15 (length ps) && each page.fits ps) _ _ _ (sym e)) [
      | inl p ↦ let a = and_parts _ _ p.0 in let q = p.1 in (a.0, a.1, (cc))
      | inr p ↦ let q = p.1 in let z : ◌≡◌ {A = ℕ} 0 1 = cc in absurd (omega arith)
    ]

-- a text and its octets
abbrev text : Codec (ℕ × List Page)
text = repeated number_of_pages coding_scheme page

pub text_wide : (c : ℕ) (ps : List Page) (n : ℕ) → c ≤ 255 → Some n ≡ page_count ps → Some (4 + 84 * n) ≡ limited (text.fits (c, ps)) (text.spell (c, ps))
text_wide c ps n l e =
    let a = count_was ps n e in
    let f : text.fits (c, ps) ≡ true = and_from _ _ a.0 (and_from _ _ (and_from _ _ (le-leb 0 c (omega arith)) (le-leb c 255 l)) a.1) in
    let b = and_parts (leb 1 (length ps)) (leb (length ps) 15) a.0 in
    let m : length ps ≤ 15 = leb-true (length ps) 15 b.1 in
    let w : length (text.spell (c, ps)) ≡ 4 + 84 * n = omega (arith, pages_wide ps a.1, a.2) in
    let h : 4 + 84 * n ≤ 65535 = omega (arith, a.2) in
    rw (f, w, le-leb (4 + 84 * n) 65535 h) refl
