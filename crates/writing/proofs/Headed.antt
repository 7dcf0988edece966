-- A header and elements, written one after the other from the start of a space.
use Rattle.std.proofs.Common.{◌≡◌, ℕ, ◌+◌, ◌≤◌, Bool, true, leb, List, ◌∷◌, ◌++◌, length, Some, sym, ◌∙◌, subst, arith}
use Rattle.std.proofs.lemmas.Bool.{and_from, le-leb}
use Rattle.elements.specs.declared.writer.Writer.{Writer}
use Rattle.cbsp.specs.Octets.{put}
use Rattle.elements.specs.Octets.{Wrote, one, three}
use Rattle.elements.specs.Whole.{headed}
use Rattle.elements.specs.Writes.{Writes, limited}
use Rattle.elements.proofs.Appending.{limited_some, writes_then}
use Rattle.writing.specs.Writing.{can_be_spelt}

module _ (fits : Bool) (t : ℕ) (xs : List ℕ) (width : ℕ) (e : Some width ≡ limited fits xs) where
  pub can : width ≤ 2044 → can_be_spelt fits (headed t xs) ≡ true
  can l =
      let s = limited_some fits xs width e in
      and_from fits (leb (length (headed t xs)) 2048) s.0 (le-leb (length (headed t xs)) 2048 (omega (arith, s.1, l)))

  pub wrote :
      (o : ℕ) (was is : List ℕ) (a b c d : Writer) → o ≡ t → a.out.now ≡ was → a.at ≡ 0 → width + 4 ≤ length was
      → Writes (one o) a b → Writes (three width) b c → Writes xs c d → is ≡ d.out.now → Wrote (headed t xs) 0 was is d.at
  wrote o was is a b c d k f z h p q r i =
      let s = limited_some fits xs width e in
      let l : 4 ≤ length a.out.now = rw f (omega (arith, h)) in
      let w = writes_then (one o ++ three width) xs a c d (omega (arith, l, z)) (writes_then (one o) (three width) a b c (omega (arith, l, z)) p q) r in
      let v : Writes (headed t xs) a d = subst (λ (n : ℕ). Writes (t ∷ (three n ++ xs)) a d) (sym s.1) (subst (λ (n : ℕ). Writes (n ∷ (three width ++ xs)) a d) k w) in
      record {
        octets = i ∙ subst (λ (n : ℕ). d.out.now ≡ put (headed t xs) n was) z (subst (λ (os : List ℕ). d.out.now ≡ put (headed t xs) a.at os) f v.octets);
        place = subst (λ (n : ℕ). d.at ≡ n + length (headed t xs)) z v.place;
      }
