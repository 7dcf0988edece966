-- Writes, one after the other, and how many octets they have.
use Rattle.std.proofs.Common.{◌≡◌, ℕ, ◌+◌, ◌≤◌, Bool, true, false, ◌&&◌, List, ◌∷◌, ◌++◌, length, Some, ap, ◌∙◌, arith, length-append}
use Rattle.std.proofs.lemmas.Grind.{common_steps}
use Rattle.elements.specs.declared.writer.Writer.{Writer}
use Rattle.elements.specs.Octets.{Wrote}
use Rattle.elements.specs.Writes.{Room, Writes, limit, limited}
use Rattle.elements.proofs.Puts.{wrote_then}

pub writes_then : (xs ys : List ℕ) (a b c : Writer) → Room xs a → Writes xs a b → Writes ys b c → Writes (xs ++ ys) a c
writes_then xs ys a b c h p q =
    let w : Wrote (xs ++ ys) a.at a.out.now c.out.now c.at
    = wrote_then xs ys a.at a.out.now b.out.now c.out.now b.at c.at h (record { octets = p.octets; place = p.place }) (record { octets = q.octets; place = q.place }) in
    record { lender = q.lender ∙ p.lender; octets = w.octets; place = w.place }

pub limited_some : (f : Bool) (xs : List ℕ) (n : ℕ) → Some n ≡ limited f xs → (f ≡ true) × (length xs ≡ n) × (n ≤ 65535)
limited_some true xs n e = grind (arith, common_steps)
limited_some false xs n e = absurd cc

pub limited_more : (f : Bool) (x : ℕ) (xs : List ℕ) (n : ℕ) → Some n ≡ limited f xs → limit (1 + n) ≡ limited f (x ∷ xs)
limited_more f x xs n e = let s = limited_some f xs n e in rw (s.0) (ap limit (omega (arith, s.1)))

pub limited_both : (f g : Bool) (xs ys : List ℕ) (m n : ℕ) → Some m ≡ limited f xs → Some n ≡ limited g ys → limit (m + n) ≡ limited (f && g) (xs ++ ys)
limited_both f g xs ys m n d e =
    let s = limited_some f xs m d in
    let t = limited_some g ys n e in
    rw (s.0, t.0) (ap limit (omega (arith, s.1, t.1, length-append xs ys)))
