-- Searching the numbers below n for one that passes a test.
-- Kept: it ties a search over numbers to each of them, and the library has no single lemma of that.
use Rattle.std.proofs.Common.{◌≡◌, ℕ, zero, suc, ◌+◌, ◌<◌, Bool, false, refl, subst, not-suc-le-zero, zero-add, add-zero, arith}
use Rattle.std.specs.List.{list_any, range_with_len}
use Rattle.std.proofs.lemmas.Bool.{or_parts}
use Rattle.cells.specs.File.{any_below}

none_from : (test : ℕ → Bool) (a n : ℕ) → list_any test (range_with_len a n) ≡ false → (k : ℕ) → k < n → test (a + k) ≡ false
none_from test a zero e k h = absurd (not-suc-le-zero h)
none_from test a (suc n) e zero h = rw add-zero (or_parts (test a) (list_any test (range_with_len (a + 1) n)) e).0
none_from test a (suc n) e (suc k) h =
    let place : (a + 1) + k ≡ a + suc k = omega arith in
    let rest = (or_parts (test a) (list_any test (range_with_len (a + 1) n)) e).1 in
    subst (λ (m : ℕ). test m ≡ false) place (none_from test (a + 1) n rest k (omega arith))

pub none_below : (test : ℕ → Bool) (n : ℕ) → any_below test n ≡ false → (k : ℕ) → k < n → test k ≡ false
none_below test n e k h = rw zero-add at (none_from test 0 n e k h)

same_from : (f g : ℕ → Bool) (a n : ℕ) → ((k : ℕ) → k < a + n → f k ≡ g k) → list_any f (range_with_len a n) ≡ list_any g (range_with_len a n)
same_from f g a zero h = refl
same_from f g a (suc n) h =
    let here : f a ≡ g a = h a (omega arith) in
    let more : list_any f (range_with_len (a + 1) n) ≡ list_any g (range_with_len (a + 1) n) = same_from f g (a + 1) n (λ k l. h k (omega arith)) in
    cc

pub any_same : (f g : ℕ → Bool) (n : ℕ) → ((k : ℕ) → k < n → f k ≡ g k) → any_below f n ≡ any_below g n
any_same f g n h = same_from f g 0 n (λ k l. h k (omega arith))
