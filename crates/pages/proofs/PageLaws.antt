-- The laws of a page, and of so many equal elements after their number.
use Rattle.std.proofs.Common.{◌≡◌, ℕ, zero, suc, ◌+◌, ◌-◌, ◌≤◌, true, eqb, leb, List, [], ◌∷◌, ◌++◌, length, get_or, take, drop, Ok, Err, Result, sym, refl, ap, ◌∙◌, subst, append_assoc, append-nil, le_refl, arith, length-append, length-drop}
use Rattle.std.proofs.lemmas.Bool.{leb-true, le-leb, eq-eqb, eqb-true, and_parts, and_from}
use Rattle.std.proofs.lemmas.List.{get_or_at, take_at, drop_at, length_push, length-take-le}
use Rattle.std.specs.List.{flat_map}
use Rattle.elements.specs.declared.faults.Fault.{Fault}
use Rattle.elements.specs.Octets.{Octets, then}
use Rattle.elements.specs.Elements.{within}
use Rattle.elements.specs.Codec.{Codec, Lawful}
use Rattle.elements.proofs.Standing.{when_ok, then_ok, same_ok, not_ok, joins, octet_stands, part_stands}
use Rattle.elements.proofs.Laws.{lawful_element}
use Rattle.pages.specs.declared.page.Page.{Page}
use Rattle.pages.specs.Pages.{read_page, page_body, page, ahead, read_times, each, repeated}

-- a page
page_forth :
    (os : List ℕ) (at body : ℕ) (v : Page) (next : ℕ) → read_page os at body ≡ Ok (v, next)
    → (take next os ≡ take body os ++ page_body.spell v) × (next ≤ length os) × (page_body.fits v ≡ true)
page_forth os at body v next e =
    let n : body + 1 + 82 ≡ body + 83 = omega arith in
    let w = when_ok (leb (body + 83) (length os)) _ _ _ e in
    let u = when_ok (within 1 82 (get_or os body 0)) _ _ _ w.1 in
    let h : body + 83 ≤ length os = leb-true _ _ w.0 in
    let len : ℕ = length os in
    let s = joins os body (body + 1) len _ _ (body + 1 + 82) (octet_stands os body len (omega arith) (le_refl len)) (part_stands os (body + 1) 82 len (omega arith) (le_refl len)) in
    let d : length (drop (body + 1) os) ≡ length os - (body + 1) = length-drop (body + 1) os in
    let c : length (take 82 (drop (body + 1) os)) ≡ 82 = length-take-le 82 (drop (body + 1) os) (omega arith) in
    let P : Page × ℕ → Type 0 = λ p. (take p.1 os ≡ take body os ++ page_body.spell p.0) × (p.1 ≤ length os) × (page_body.fits p.0 ≡ true) in
    subst P (same_ok _ _ u.1) (ap (λ (i : ℕ). take i os) (sym n) ∙ s.spelt, h, and_from _ _ u.0 (eq-eqb _ _ c))

page_back :
    (pre post : List ℕ) (at : ℕ) (v : Page) → page_body.fits v ≡ true
    → read_page (pre ++ (page_body.spell v ++ post)) at (length pre) ≡ Ok (v, length pre + length (page_body.spell v))
page_back pre post at v f =
    let a = and_parts (within 1 82 v.used) (eqb (length v.content) 82) f in
    let u : within 1 82 v.used ≡ true = a.0 in
    let l : length v.content ≡ 82 = eqb-true _ _ a.1 in
    let rest : List ℕ = v.content ++ post in
    let os : List ℕ = pre ++ (v.used ∷ rest) in
    let front : List ℕ = pre ++ (v.used ∷ []) in
    let g : get_or os (length pre) 0 ≡ v.used = get_or_at pre v.used rest 0 (length pre) refl in
    let d : drop (length pre + 1) os ≡ rest = ap (drop (length pre + 1)) (sym (append_assoc pre (v.used ∷ []) rest)) ∙ drop_at front rest (length pre + 1) (length_push pre v.used) in
    let t : take 82 rest ≡ v.content = take_at v.content post 82 l in
    let m : length os ≡ length pre + length (v.used ∷ rest) = length-append pre (v.used ∷ rest) in
    let q : length rest ≡ length v.content + length post = length-append v.content post in
    let h : length pre + 83 ≤ length os = omega arith in
    let n : length pre + 83 ≡ length pre + length (v.used ∷ v.content) = omega arith in
    rw (le-leb (length pre + 83) (length os) h, g, u, d, t) (ap (λ (i : ℕ). Ok (v, i)) n)

pub page_lawful : Lawful page
page_lawful = lawful_element 1 page_body (record {
  body_forth = λ os at body v next o l e. page_forth os at body v next e;
  body_back = λ pre post at v f. page_back pre post at v f;
})

-- so many of an element
ahead_ok :
    {V : Type 0} (v : V) (r : Result (List V × ℕ) Fault) (p : List V × ℕ) → ahead v r ≡ Ok p → (q : List V × ℕ) × (r ≡ Ok q) × ((v ∷ q.0, q.1) ≡ p)
ahead_ok v (Ok q) p e = (q, refl, same_ok _ _ e)
ahead_ok v (Err f) p e = absurd (not_ok _ _ e)

module _ {V : Type 0} (c : Codec V) (laws : Lawful c) where
  pub record Spelt (os : List ℕ) (at n : ℕ) (p : List V × ℕ) : Type 0 where
    pub spelt : take p.1 os ≡ take at os ++ flat_map c.spell p.0
    pub within : p.1 ≤ length os
    pub fit : each c.fits p.0 ≡ true
    pub many : length p.0 ≡ n

  times_forth : (os : List ℕ) (n at : ℕ) (p : List V × ℕ) → Octets os → at ≤ length os → read_times c os n at ≡ Ok p → Spelt os at n p
  unfolding read_times
  times_forth os zero at p o l e = subst (Spelt os at 0) (same_ok _ _ e) (record { spelt = sym (append-nil (take at os)); within = l; fit = refl; many = refl })
  times_forth os (suc n) at p o l e =
      let t = then_ok (c.read os at) (λ q. ahead q.0 (read_times c os n q.1)) p e in
      let a = ahead_ok t.0.0 (read_times c os n t.0.1) p t.2 in
      let x = laws.forth os at t.0.0 t.0.1 o l t.1 in
      let y = times_forth os n t.0.1 a.0 o x.1 a.1 in
      subst (Spelt os at (suc n)) a.2 (record {
        spelt = y.spelt ∙ ap (λ (z : List ℕ). z ++ flat_map c.spell a.0.0) x.0 ∙ append_assoc (take at os) (c.spell t.0.0) (flat_map c.spell a.0.0);
        within = y.within;
        fit = and_from _ _ x.2 y.fit;
        many = ap suc y.many;
      })

  times_back :
      ((xs : List ℕ) → c.Follow xs) → (pre post : List ℕ) (vs : List V) → each c.fits vs ≡ true
      → read_times c (pre ++ (flat_map c.spell vs ++ post)) (length vs) (length pre) ≡ Ok (vs, length pre + length (flat_map c.spell vs))
  unfolding read_times
  times_back w pre post [] f = let z : length pre ≡ length pre + 0 = omega arith in ap (λ (i : ℕ). Ok ([], i)) z
  times_back w pre post (v ∷ vs) f =
      let a = and_parts (c.fits v) (each c.fits vs) f in
      let x : List ℕ = c.spell v in
      let y : List ℕ = flat_map c.spell vs in
      let os : List ℕ = pre ++ ((x ++ y) ++ post) in
      let e : pre ++ (x ++ (y ++ post)) ≡ os = simp append_assoc in
      let g : (pre ++ x) ++ (y ++ post) ≡ os = simp append_assoc in
      let m : length (pre ++ x) ≡ length pre + length x = length-append pre x in
      let n : length (pre ++ x) + length y ≡ length pre + length (x ++ y) = omega (arith, length-append x y) in
      let p : c.read os (length pre) ≡ Ok (v, length (pre ++ x))
      = subst (λ (q : List ℕ). c.read q (length pre) ≡ Ok (v, length (pre ++ x))) e (laws.back pre (y ++ post) v a.0 (w (y ++ post)) ∙ ap (λ (i : ℕ). Ok (v, i)) (sym m)) in
      let q : read_times c os (length vs) (length (pre ++ x)) ≡ Ok (vs, length pre + length (x ++ y))
      = subst (λ (r : List ℕ). read_times c r (length vs) (length (pre ++ x)) ≡ Ok (vs, length pre + length (x ++ y))) g (times_back w (pre ++ x) post vs a.1 ∙ ap (λ (i : ℕ). Ok (vs, i)) n) in
      ap (λ (r : Result (V × ℕ) Fault). then r (λ t. ahead t.0 (read_times c os (length vs) t.1))) p ∙ ap (ahead v) q

-- a number, another element, and so many of a third
module _ {D P : Type 0} (n : Codec ℕ) (d : Codec D) (p : Codec P) (ln : Lawful n) (ld : Lawful d) (lp : Lawful p) where
  repeated_forth :
      (os : List ℕ) (at : ℕ) (v : D × List P) (next : ℕ) → Octets os → at ≤ length os → (repeated n d p).read os at ≡ Ok (v, next)
      → (take next os ≡ take at os ++ (repeated n d p).spell v) × (next ≤ length os) × ((repeated n d p).fits v ≡ true)
  repeated_forth os at v next o l e =
      let t = then_ok (n.read os at) _ (v, next) e in
      let u = then_ok (d.read os t.0.1) _ (v, next) t.2 in
      let s = then_ok (read_times p os t.0.0 u.0.1) _ (v, next) u.2 in
      let x = ln.forth os at t.0.0 t.0.1 o l t.1 in
      let y = ld.forth os t.0.1 u.0.0 u.0.1 o x.1 u.1 in
      let z = times_forth p lp os t.0.0 u.0.1 s.0 o y.1 s.1 in
      let ps : List P = s.0.0 in
      let c : t.0.0 ≡ length ps = sym z.many in
      let js : List ℕ = flat_map p.spell ps in
      let q : take s.0.1 os ≡ take at os ++ (n.spell (length ps) ++ (d.spell u.0.0 ++ js))
      = z.spelt ∙ ap (λ (k : List ℕ). k ++ js) y.0 ∙ append_assoc (take t.0.1 os) (d.spell u.0.0) js
      ∙ ap (λ (k : List ℕ). k ++ (d.spell u.0.0 ++ js)) x.0 ∙ append_assoc (take at os) (n.spell t.0.0) (d.spell u.0.0 ++ js)
      ∙ ap (λ (i : ℕ). take at os ++ (n.spell i ++ (d.spell u.0.0 ++ js))) c in
      let T : (D × List P) × ℕ → Type 0 = λ k. (take k.1 os ≡ take at os ++ (repeated n d p).spell k.0) × (k.1 ≤ length os) × ((repeated n d p).fits k.0 ≡ true) in
      subst T (same_ok _ _ s.2) (q, z.within, and_from _ _ (subst (λ (i : ℕ). n.fits i ≡ true) c x.2) (and_from _ _ y.2 z.fit))

  repeated_back :
      ((xs : List ℕ) → n.Follow xs) → ((xs : List ℕ) → d.Follow xs) → ((xs : List ℕ) → p.Follow xs) → (pre post : List ℕ) (v : D × List P) → (repeated n d p).fits v ≡ true
      → (repeated n d p).read (pre ++ ((repeated n d p).spell v ++ post)) (length pre) ≡ Ok (v, length pre + length ((repeated n d p).spell v))
  repeated_back wn wd wp pre post v f =
      let a = and_parts _ _ f in
      let b = and_parts _ _ a.1 in
      let i : ℕ = length v.1 in
      let x : List ℕ = n.spell i in
      let y : List ℕ = d.spell v.0 in
      let z : List ℕ = flat_map p.spell v.1 in
      let os : List ℕ = pre ++ ((x ++ (y ++ z)) ++ post) in
      let e : pre ++ (x ++ (y ++ (z ++ post))) ≡ os = simp append_assoc in
      let g : (pre ++ x) ++ (y ++ (z ++ post)) ≡ os = simp append_assoc in
      let h : (pre ++ x ++ y) ++ (z ++ post) ≡ os = simp append_assoc in
      let m : length (pre ++ x) ≡ length pre + length x = length-append pre x in
      let k : length (pre ++ x ++ y) ≡ length (pre ++ x) + length y = length-append (pre ++ x) y in
      let s : length (pre ++ x ++ y) + length z ≡ length pre + length (x ++ (y ++ z)) = omega (arith, length-append x (y ++ z), length-append y z) in
      let r₁ : n.read os (length pre) ≡ Ok (i, length (pre ++ x))
      = subst (λ (q : List ℕ). n.read q (length pre) ≡ Ok (i, length (pre ++ x))) e (ln.back pre (y ++ (z ++ post)) i a.0 (wn _) ∙ ap (λ (j : ℕ). Ok (i, j)) (sym m)) in
      let r₂ : d.read os (length (pre ++ x)) ≡ Ok (v.0, length (pre ++ x ++ y))
      = subst (λ (q : List ℕ). d.read q (length (pre ++ x)) ≡ Ok (v.0, length (pre ++ x ++ y))) g (ld.back (pre ++ x) (z ++ post) v.0 b.0 (wd _) ∙ ap (λ (j : ℕ). Ok (v.0, j)) (sym k)) in
      let r₃ : read_times p os i (length (pre ++ x ++ y)) ≡ Ok (v.1, length pre + length (x ++ (y ++ z)))
      = subst (λ (q : List ℕ). read_times p q i (length (pre ++ x ++ y)) ≡ Ok (v.1, length pre + length (x ++ (y ++ z)))) h (times_back p lp wp (pre ++ x ++ y) post v.1 b.1 ∙ ap (λ (j : ℕ). Ok (v.1, j)) s) in
      ap (λ (r : Result (ℕ × ℕ) Fault). then r (λ t. then (d.read os t.1) (λ u. then (read_times p os t.0 u.1) (λ w. Ok ((u.0, w.0), w.1))))) r₁
      ∙ ap (λ (r : Result (D × ℕ) Fault). then r (λ u. then (read_times p os i u.1) (λ w. Ok ((u.0, w.0), w.1)))) r₂
      ∙ ap (λ (r : Result (List P × ℕ) Fault). then r (λ w. Ok ((v.0, w.0), w.1))) r₃

  pub lawful_repeated :
      ((xs : List ℕ) → n.Follow xs) → ((xs : List ℕ) → d.Follow xs) → ((xs : List ℕ) → p.Follow xs) → Lawful (repeated n d p)
  lawful_repeated wn wd wp = record { forth = repeated_forth; back = λ pre post v f w. repeated_back wn wd wp pre post v f }
