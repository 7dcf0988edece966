-- Writes, one after the other.
use Rattle.std.proofs.Common.{ℕ, ◌+◌, ◌≤◌, List, [], ◌++◌, length, sym, ap, ◌∙◌, add-zero, arith, length-append}
use Rattle.cbsp.specs.Octets.{put}
use Rattle.cbsp.proofs.Puts.{put_none, put_more}
use Rattle.elements.specs.Octets.{Wrote}

pub wrote_none : (os : List ℕ) (at : ℕ) → Wrote [] at os os at
wrote_none os at = record { octets = sym (put_none at os); place = sym (add-zero at) }

pub wrote_then :
    (xs ys : List ℕ) (at : ℕ) (o₁ o₂ o₃ : List ℕ) (m n : ℕ) → at + length xs ≤ length o₁ → Wrote xs at o₁ o₂ m → Wrote ys m o₂ o₃ n
    → Wrote (xs ++ ys) at o₁ o₃ n
wrote_then xs ys at o₁ o₂ o₃ m n h p q =
    let fits : m ≤ length o₁ = omega (arith, p.place) in
    record {
      octets = q.octets ∙ ap (put ys m) p.octets ∙ put_more at xs ys o₁ m p.place fits;
      place = omega (arith, p.place, q.place, length-append xs ys);
    }
