-- The laws of codecs, from part to whole.
use Rattle.std.proofs.Common.{◌≡◌, ℕ, ◌+◌, ◌<◌, ◌≤◌, true, ◌&&◌, eqb, ltb, leb, List, [], ◌∷◌, ◌++◌, length, get_or, take, Some, None, Ok, Err, Option, Result, sym, refl, ap, ◌∙◌, subst, inl, inr, append_assoc, append-nil, arith, length-append}
use Rattle.std.proofs.lemmas.Bool.{eqb-true, ltb-true, le-leb, lt-ltb, eq-eqb, ne_eqb, le-ltb, and_parts, and_from, and_right, cond-false}
use Rattle.std.proofs.lemmas.List.{take_more, get_or_at, length_push}
use Rattle.elements.specs.declared.faults.ElementFault.{ElementFault}
use Rattle.elements.specs.declared.faults.Fault.{Fault}
use Rattle.elements.specs.Octets.{Octets, then, raised}
use Rattle.elements.specs.Faults.{to_message}
use Rattle.elements.specs.Elements.{find, find_channel, sought, as_some, maybe}
use Rattle.elements.specs.Codec.{Codec, Body, nothing, seq, turned, via, element_by, element, optional, spell_maybe, fits_maybe, Absent, Lawful, BodyLaws}
use Rattle.elements.proofs.Standing.{cond_was, then_ok, same_ok, not_ok, raised_ok}

pub lawful_nothing : Lawful nothing
lawful_nothing = record {
  forth = λ os at v next o l e.
      let n : at ≡ next = ap (λ (p : Unit {0} × ℕ). p.1) (same_ok _ _ e) in
      (ap (λ (i : ℕ). take i os) (sym n) ∙ sym (append-nil (take at os)), omega arith, refl);
  back = λ pre post v f w. let z : length pre ≡ length pre + 0 = omega arith in ap (λ (i : ℕ). Ok (v, i)) z;
}

-- one after the other
seq_back :
    {A B : Type 0} (a : Codec A) (b : Codec B) (os : List ℕ) (at m n : ℕ) (v : A) (w : B) → a.read os at ≡ Ok (v, m) → b.read os m ≡ Ok (w, n)
    → (seq a b).read os at ≡ Ok ((v, w), n)
seq_back {A} {B} a b os at m n v w p q =
    ap (λ (r : Result (A × ℕ) Fault). then r (λ x. then (b.read os x.1) (λ y. Ok ((x.0, y.0), y.1)))) p
    ∙ ap (λ (r : Result (B × ℕ) Fault). then r (λ y. Ok ((v, y.0), y.1))) q

pub lawful_seq : {A B : Type 0} (a : Codec A) (b : Codec B) → Lawful a → Lawful b → Lawful (seq a b)
lawful_seq {A} {B} a b la lb = record {
  forth = λ os at v next o l e.
      let t = then_ok (a.read os at) (λ p. then (b.read os p.1) (λ q. Ok ((p.0, q.0), q.1))) (v, next) e in
      let u = then_ok (b.read os t.0.1) (λ q. Ok ((t.0.0, q.0), q.1)) (v, next) t.2 in
      let x = la.forth os at t.0.0 t.0.1 o l t.1 in
      let y = lb.forth os t.0.1 u.0.0 u.0.1 o x.1 u.1 in
      let P : (A × B) × ℕ → Type 0 = λ p. (take p.1 os ≡ take at os ++ (seq a b).spell p.0) × (p.1 ≤ length os) × ((seq a b).fits p.0 ≡ true) in
      subst P (same_ok _ _ u.2)
      (y.0 ∙ ap (λ (z : List ℕ). z ++ b.spell u.0.0) x.0 ∙ append_assoc (take at os) (a.spell t.0.0) (b.spell u.0.0), y.1, and_from _ _ x.2 y.2);
  back = λ pre post v f₀ w.
      let f = and_parts (a.fits v.0) (b.fits v.1) f₀ in
      let x : List ℕ = a.spell v.0 in
      let y : List ℕ = b.spell v.1 in
      let os : List ℕ = pre ++ ((x ++ y) ++ post) in
      let e : pre ++ (x ++ (y ++ post)) ≡ os = simp append_assoc in
      let g : (pre ++ x) ++ (y ++ post) ≡ os = simp append_assoc in
      let m : length (pre ++ x) ≡ length pre + length x = length-append pre x in
      let n : length (pre ++ x) + length y ≡ length pre + length (x ++ y) = omega (arith, length-append x y) in
      let p : a.read os (length pre) ≡ Ok (v.0, length (pre ++ x))
      = subst (λ (q : List ℕ). a.read q (length pre) ≡ Ok (v.0, length (pre ++ x))) e (la.back pre (y ++ post) v.0 f.0 (w.1 v.1 f.1) ∙ ap (λ (i : ℕ). Ok (v.0, i)) (sym m)) in
      let q : b.read os (length (pre ++ x)) ≡ Ok (v.1, length pre + length (x ++ y))
      = subst (λ (r : List ℕ). b.read r (length (pre ++ x)) ≡ Ok (v.1, length pre + length (x ++ y))) g (lb.back (pre ++ x) post v.1 f.1 w.0 ∙ ap (λ (i : ℕ). Ok (v.1, i)) n) in
      seq_back a b os (length pre) (length (pre ++ x)) _ v.0 v.1 p q;
}

-- values of another type
turned_ok : {A B : Type 0} (to : A → B) (r : Result (A × ℕ) Fault) (p : B × ℕ) → turned to r ≡ Ok p → (q : A × ℕ) × (r ≡ Ok q) × ((to q.0, q.1) ≡ p)
turned_ok to (Ok q) p e = (q, refl, same_ok _ _ e)
turned_ok to (Err f) p e = absurd (not_ok _ _ e)

pub lawful_via :
    {A B : Type 0} (to : A → B) (from : B → A) (c : Codec A) → ((a : A) → from (to a) ≡ a) → ((b : B) → to (from b) ≡ b) → Lawful c → Lawful (via to from c)
lawful_via {A} {B} to from c there back laws = record {
  forth = λ os at v next o l e.
      let t = turned_ok to (c.read os at) (v, next) e in
      let x = laws.forth os at t.0.0 t.0.1 o l t.1 in
      let P : B × ℕ → Type 0 = λ p. (take p.1 os ≡ take at os ++ c.spell (from p.0)) × (p.1 ≤ length os) × (c.fits (from p.0) ≡ true) in
      subst P t.2 (rw (there t.0.0) x);
  back = λ pre post v f w. ap (turned to) (laws.back pre post (from v) f w) ∙ ap (λ (b : B). Ok (b, length pre + length (c.spell (from v)))) (back v);
}

-- an element, from what follows its identifier
pub found : (id : ℕ) (os : List ℕ) (at body : ℕ) → find id os at ≡ Ok (Some body) → (at < length os) × (get_or os at 0 ≡ id) × (at + 1 ≡ body)
found id os at body e =
    elim (cond_was (ltb at (length os)) _ _ _ e) [
      | inl p ↦ elim (cond_was (eqb (get_or os at 0) id) _ _ _ p.1) [
        | inl q ↦ (ltb-true at (length os) p.0, eqb-true (get_or os at 0) id q.0, let z = q.1 in (cc))
        | inr q ↦ elim (cond_was (leb 1 (get_or os at 0) && leb (get_or os at 0) 24) _ _ _ q.1)
            [ inl r ↦ let s = r.1 in let z : ◌≡◌ {A = ℕ} 0 1 = cc in absurd (omega arith) | inr r ↦ absurd (not_ok _ _ r.1) ]
      ]
      | inr p ↦ let s = p.1 in let z : ◌≡◌ {A = ℕ} 0 1 = cc in absurd (omega arith)
    ]

-- how an identifier is looked for
pub record FindLaws (seen : List ℕ → ℕ → Result (Option ℕ) ElementFault) (id : ℕ) : Type 0 where
  pub find_forth : (os : List ℕ) (at body : ℕ) → seen os at ≡ Ok (Some body) → (at < length os) × (get_or os at 0 ≡ id) × (at + 1 ≡ body)
  pub find_back : (pre ys : List ℕ) → seen (pre ++ (id ∷ ys)) (length pre) ≡ Ok (Some (length pre + 1))

sought_ok :
    {V : Type 0} (at : ℕ) (read : ℕ → Result (V × ℕ) ElementFault) (o : Option ℕ) (v : V × ℕ) → sought at read o ≡ Ok v
    → (body : ℕ) × (o ≡ Some body) × (read body ≡ Ok v)
sought_ok at read None v e = absurd (not_ok _ _ e)
sought_ok at read (Some body) v e = (body, refl, raised_ok to_message (read body) v e)

find_there : (id : ℕ) (pre ys : List ℕ) → find id (pre ++ (id ∷ ys)) (length pre) ≡ Ok (Some (length pre + 1))
find_there id pre ys =
    let l : length (pre ++ (id ∷ ys)) ≡ length pre + length (id ∷ ys) = length-append pre (id ∷ ys) in
    let h : length pre < length (pre ++ (id ∷ ys)) = omega arith in
    rw (lt-ltb (length pre) (length (pre ++ (id ∷ ys))) h, get_or_at pre id ys 0 (length pre) refl, eq-eqb id id refl)

find_laws : (id : ℕ) → FindLaws (find id) id
find_laws id = record { find_forth = found id; find_back = find_there id }

pub channel_laws : FindLaws find_channel 18
channel_laws = record {
  find_forth = λ os at body e.
      elim (cond_was (ltb at (length os) && eqb (get_or os at 0) 15) _ _ _ e) [
        | inl p ↦ absurd (not_ok _ _ p.1)
        | inr p ↦ found 18 os at body p.1
      ];
  find_back = λ pre ys.
      let g : get_or (pre ++ (18 ∷ ys)) (length pre) 0 ≡ 18 = get_or_at pre 18 ys 0 (length pre) refl in
      cond-false _ _ _ (and_right _ _ (ap (λ (n : ℕ). eqb n 15) g)) ∙ find_there 18 pre ys;
}

pub lawful_by :
    {V : Type 0} (seen : List ℕ → ℕ → Result (Option ℕ) ElementFault) (id : ℕ) (b : Body V) → FindLaws seen id → BodyLaws b → Lawful (element_by seen id b)
lawful_by {V} seen id b finds laws = record {
  forth = λ os at v next o l e.
      let t = then_ok (raised to_message (seen os at)) (sought at (b.read os at)) (v, next) e in
      let s = sought_ok at (b.read os at) t.0 (v, next) t.2 in
      let f = finds.find_forth os at s.0 (raised_ok to_message (seen os at) t.0 t.1 ∙ ap Ok s.1) in
      let i : s.0 ≤ length os = omega arith in
      let x = laws.body_forth os at s.0 v next o i s.2 in
      let y : take s.0 os ≡ take at os ++ (id ∷ [])
      = ap (λ (n : ℕ). take n os) (sym f.2) ∙ take_more os at 0 f.0 ∙ ap (λ (n : ℕ). take at os ++ (n ∷ [])) f.1 in
      (x.0 ∙ ap (λ (z : List ℕ). z ++ b.spell v) y ∙ append_assoc (take at os) (id ∷ []) (b.spell v), x.1, x.2);
  back = λ pre post v f w.
      let front : List ℕ = pre ++ (id ∷ []) in
      let os : List ℕ = pre ++ (id ∷ (b.spell v ++ post)) in
      let e : front ++ (b.spell v ++ post) ≡ os = append_assoc pre (id ∷ []) (b.spell v ++ post) in
      let m : length front ≡ length pre + 1 = length_push pre id in
      let n : length front + length (b.spell v) ≡ length pre + length (id ∷ b.spell v) = omega arith in
      let r : b.read os (length pre) (length pre + 1) ≡ Ok (v, length pre + length (id ∷ b.spell v))
      = subst (λ (i : ℕ). b.read os (length pre) i ≡ Ok (v, length pre + length (id ∷ b.spell v))) m
      (subst (λ (q : List ℕ). b.read q (length pre) (length front) ≡ Ok (v, length pre + length (id ∷ b.spell v))) e
      (laws.body_back front post (length pre) v f ∙ ap (λ (i : ℕ). Ok (v, i)) n)) in
      ap (λ (r : Result (Option ℕ) ElementFault). then (raised to_message r) (sought (length pre) (b.read os (length pre)))) (finds.find_back pre (b.spell v ++ post))
      ∙ ap (raised to_message) r;
}

pub lawful_element : {V : Type 0} (id : ℕ) (b : Body V) → BodyLaws b → Lawful (element id b)
lawful_element id b laws = lawful_by (find id) id b (find_laws id) laws

-- an element that may be absent
find_absent : (id : ℕ) (pre post : List ℕ) → Absent id post → find id (pre ++ post) (length pre) ≡ Ok None
find_absent id pre [] a =
    let h : length (pre ++ []) ≤ length pre = omega (arith, length-append pre []) in
    rw (le-ltb (length pre) (length (pre ++ [])) h)
find_absent id pre (x ∷ xs) a =
    let h : length pre < length (pre ++ (x ∷ xs)) = omega (arith, length-append pre (x ∷ xs)) in
    rw (lt-ltb (length pre) (length (pre ++ (x ∷ xs))) h, get_or_at pre x xs 0 (length pre) refl, ne_eqb x id a.0, le-leb 1 x a.1, le-leb x 24 a.2)

as_some_ok :
    {V : Type 0} (r : Result (V × ℕ) ElementFault) (p : Option V × ℕ) → as_some r ≡ Ok p → (q : V × ℕ) × (r ≡ Ok q) × ((Some q.0, q.1) ≡ p)
as_some_ok (Ok q) p e = (q, refl, same_ok _ _ e)
as_some_ok (Err f) p e = absurd (not_ok _ _ e)

module _ {V : Type 0} (id : ℕ) (b : Body V) (laws : BodyLaws b) where
  abbrev Right : List ℕ → ℕ → Option V × ℕ → Type 0
  Right os at p = (take p.1 os ≡ take at os ++ spell_maybe id b.spell p.0) × (p.1 ≤ length os) × (fits_maybe b.fits p.0 ≡ true)

  maybe_forth :
      (os : List ℕ) (at : ℕ) (o : Option ℕ) (p : Option V × ℕ) → Octets os → at ≤ length os → find id os at ≡ Ok o → maybe at (b.read os at) o ≡ Ok p → Right os at p
  maybe_forth os at None p o l f e = subst (Right os at) (same_ok _ _ e) (sym (append-nil (take at os)), l, refl)
  maybe_forth os at (Some body) p o l f e =
      let s = as_some_ok (b.read os at body) p e in
      let g = found id os at body f in
      let i : body ≤ length os = omega arith in
      let x = laws.body_forth os at body s.0.0 s.0.1 o i s.1 in
      let y : take body os ≡ take at os ++ (id ∷ [])
      = ap (λ (n : ℕ). take n os) (sym g.2) ∙ take_more os at 0 g.0 ∙ ap (λ (n : ℕ). take at os ++ (n ∷ [])) g.1 in
      subst (Right os at) s.2 (x.0 ∙ ap (λ (z : List ℕ). z ++ b.spell s.0.0) y ∙ append_assoc (take at os) (id ∷ []) (b.spell s.0.0), x.1, x.2)

  maybe_back :
      (pre post : List ℕ) (v : Option V) → fits_maybe b.fits v ≡ true → Absent id post
      → (optional id b).read (pre ++ (spell_maybe id b.spell v ++ post)) (length pre) ≡ Ok (v, length pre + length (spell_maybe id b.spell v))
  maybe_back pre post None f w =
      let z : length pre ≡ length pre + 0 = omega arith in
      ap (λ (r : Result (Option ℕ) ElementFault). then (raised to_message r) (maybe (length pre) (b.read (pre ++ post) (length pre)))) (find_absent id pre post w)
      ∙ ap (λ (i : ℕ). Ok (None, i)) z
  maybe_back pre post (Some v) f w =
      let front : List ℕ = pre ++ (id ∷ []) in
      let os : List ℕ = pre ++ (id ∷ (b.spell v ++ post)) in
      let e : front ++ (b.spell v ++ post) ≡ os = append_assoc pre (id ∷ []) (b.spell v ++ post) in
      let m : length front ≡ length pre + 1 = length_push pre id in
      let n : length front + length (b.spell v) ≡ length pre + length (id ∷ b.spell v) = omega arith in
      let r : b.read os (length pre) (length pre + 1) ≡ Ok (v, length pre + length (id ∷ b.spell v))
      = subst (λ (i : ℕ). b.read os (length pre) i ≡ Ok (v, length pre + length (id ∷ b.spell v))) m
      (subst (λ (q : List ℕ). b.read q (length pre) (length front) ≡ Ok (v, length pre + length (id ∷ b.spell v))) e
      (laws.body_back front post (length pre) v f ∙ ap (λ (i : ℕ). Ok (v, i)) n)) in
      ap (λ (r : Result (Option ℕ) ElementFault). then (raised to_message r) (maybe (length pre) (b.read os (length pre)))) (find_there id pre (b.spell v ++ post))
      ∙ ap as_some r

  pub lawful_optional : Lawful (optional id b)
  lawful_optional = record {
    forth = λ os at v next o l e.
        let t = then_ok (raised to_message (find id os at)) (maybe at (b.read os at)) (v, next) e in
        maybe_forth os at t.0 (v, next) o l (raised_ok to_message (find id os at) t.0 t.1) t.2;
    back = maybe_back;
  }

-- what follows an element that may be absent
pub absent_maybe :
    {V : Type 0} (id j : ℕ) (spell : V → List ℕ) (v : Option V) (post : List ℕ) → (j ≡ id → ⊥) × (1 ≤ j) × (j ≤ 24) → Absent id post → Absent id (spell_maybe j spell v ++ post)
absent_maybe id j spell None post p q = q
absent_maybe id j spell (Some v) post p q = p

pub absent_then : (id : ℕ) (xs ys post : List ℕ) → Absent id (xs ++ (ys ++ post)) → Absent id ((xs ++ ys) ++ post)
absent_then id xs ys post a = subst (Absent id) (sym (append_assoc xs ys post)) a
