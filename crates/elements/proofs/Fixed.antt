-- The laws of the elements of fixed length.
use Rattle.std.proofs.Common.{◌≡◌, ℕ, ◌+◌, ◌<◌, ◌≤◌, Bool, true, List, [], ◌∷◌, ◌++◌, length, get_or, take, Some, None, Ok, Option, sym, refl, ap, ◌∙◌, subst, inl, inr, le_refl, arith, length-append}
use Rattle.std.proofs.lemmas.Bool.{ltb-true, leb-true, le-leb, lt-ltb}
use Rattle.std.proofs.lemmas.List.{take_more, get_or_at}
use Rattle.cbsp.specs.Octets.{two_at}
use Rattle.elements.specs.Octets.{one, two}
use Rattle.elements.specs.Elements.{within, valued, read_coded, ranged}
use Rattle.elements.specs.Codec.{BodyLaws, number_body, coded_body, octet_body}
use Rattle.elements.proofs.Standing.{when_ok, cond_was, same_ok, not_ok, two_stands, two_here}

pub number_laws : (lo hi : ℕ) → BodyLaws (number_body lo hi)
number_laws lo hi = record {
  body_forth = λ os at body v next o l e.
      let w = when_ok _ _ _ _ e in
      let u = when_ok (within lo hi (two_at os body)) _ _ _ w.1 in
      let h : body + 2 ≤ length os = leb-true _ _ w.0 in
      let s = two_stands os body (length os) o h (le_refl (length os)) in
      let P : ℕ × ℕ → Type 0 = λ p. (take p.1 os ≡ take body os ++ two p.0) × (p.1 ≤ length os) × (within lo hi p.0 ≡ true) in
      subst P (same_ok _ _ u.1) (s.spelt, h, u.0);
  body_back = λ pre post at v f.
      let l : length (pre ++ (two v ++ post)) ≡ length pre + length (two v ++ post) = length-append pre (two v ++ post) in
      let m : length (two v ++ post) ≡ 2 + length post = length-append (two v) post in
      let h : length pre + 2 ≤ length (pre ++ (two v ++ post)) = omega arith in
      rw (le-leb (length pre + 2) (length (pre ++ (two v ++ post))) h, two_here pre v post, f);
}

-- a value of one octet, where code and value belong together
valued_ok : {V : Type 0} (body : ℕ) (r : Option V) (p : V × ℕ) → valued body r ≡ Ok p → (v : V) × (r ≡ Some v) × ((v, body + 1) ≡ p)
valued_ok body (Some v) p e = (v, refl, same_ok _ _ e)
valued_ok body None p e = absurd (not_ok _ _ e)

module _ {V : Type 0} (encode : V → ℕ) (decode : ℕ → Option V) (fits : V → Bool) where
  octet_forth :
      ((o : ℕ) (v : V) → decode o ≡ Some v → (encode v ≡ o) × (fits v ≡ true))
      → (os : List ℕ) (at body : ℕ) (v : V) (next : ℕ) → read_coded decode os at body ≡ Ok (v, next)
      → (take next os ≡ take body os ++ one (encode v)) × (next ≤ length os) × (fits v ≡ true)
  octet_forth there os at body v next e =
      let w = when_ok _ _ _ _ e in
      let h : body < length os = ltb-true _ _ w.0 in
      let t = take_more os body 0 h in
      let s = valued_ok body (decode (get_or os body 0)) (v, next) w.1 in
      let c = there (get_or os body 0) s.0 s.1 in
      let P : V × ℕ → Type 0 = λ p. (take p.1 os ≡ take body os ++ one (encode p.0)) × (p.1 ≤ length os) × (fits p.0 ≡ true) in
      subst P s.2 (t ∙ ap (λ (n : ℕ). take body os ++ (n ∷ [])) (sym c.0), omega arith, c.1)

  octet_back :
      (pre post : List ℕ) (at : ℕ) (v : V) → decode (encode v) ≡ Some v
      → read_coded decode (pre ++ (one (encode v) ++ post)) at (length pre) ≡ Ok (v, length pre + 1)
  octet_back pre post at v c =
      let h : length pre < length (pre ++ (encode v ∷ post)) = omega (arith, length-append pre (encode v ∷ post)) in
      rw (lt-ltb (length pre) (length (pre ++ (encode v ∷ post))) h, get_or_at pre (encode v) post 0 (length pre) refl, c)

pub coded_laws :
    {V : Type 0} (encode : V → ℕ) (decode : ℕ → Option V) → ((o : ℕ) (v : V) → decode o ≡ Some v → encode v ≡ o) → ((v : V) → decode (encode v) ≡ Some v)
    → BodyLaws (coded_body encode decode)
coded_laws encode decode there back = record {
  body_forth = λ os at body v next o l e. octet_forth encode decode (λ _. true) (λ n w p. (there n w p, refl)) os at body v next e;
  body_back = λ pre post at v f. octet_back encode decode (λ _. true) pre post at v (back v);
}

ranged_was : (lo hi o v : ℕ) → ranged lo hi o ≡ Some v → (v ≡ o) × (within lo hi v ≡ true)
ranged_was lo hi o v e =
    elim (cond_was (within lo hi o) _ _ _ e) [
      | inl p ↦ let q = p.1 in let s : o ≡ v = cc in (sym s, ap (within lo hi) (sym s) ∙ p.0)
      | inr p ↦ let q = p.1 in let z : ◌≡◌ {A = ℕ} 0 1 = cc in absurd (omega arith)
    ]

pub octet_laws : (lo hi : ℕ) → BodyLaws (octet_body lo hi)
octet_laws lo hi = record {
  body_forth = λ os at body v next o l e. octet_forth (λ n. n) (ranged lo hi) (within lo hi) (ranged_was lo hi) os at body v next e;
  body_back = λ pre post at v f. octet_back (λ n. n) (ranged lo hi) (within lo hi) pre post at v (rw f);
}
