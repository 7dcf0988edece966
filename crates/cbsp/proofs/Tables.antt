-- A rule that holds at each place of a table, shown by one test that is computed over the whole table.
use Rattle.std.proofs.Common.{◌≡◌, ℕ, ◌<◌, Bool, true, ◌&&◌, List, [], ◌∷◌, subst, zero-add}
use Rattle.std.specs.List.{AllByRecursion, range_with_len}
use Rattle.std.proofs.ByRecursion.{All-get_or}
use Rattle.std.proofs.lemmas.List.FromFn.{length-range_with_len, get_or-range_with_len}
use Rattle.std.proofs.lemmas.Bool.{and_parts}

-- the test passes at each number of a list
abbrev pub passes : (ℕ → Bool) → List ℕ → Bool
passes test [] = true
passes test (x ∷ xs) = test x && passes test xs

all_pass : (test : ℕ → Bool) (xs : List ℕ) → passes test xs ≡ true → AllByRecursion (λ x. test x ≡ true) xs
all_pass test [] e = tt
all_pass test (x ∷ xs) e =
    let parts = and_parts (test x) (passes test xs) e in
    (parts.0, all_pass test xs parts.1)

pub at_each : (test : ℕ → Bool) (n : ℕ) → passes test (range_with_len 0 n) ≡ true → (k : ℕ) → k < n → test k ≡ true
at_each test n e k l =
    subst (λ (x : ℕ). test x ≡ true) (rw (get_or-range_with_len 0 n k 0 l, zero-add k))
    (All-get_or (λ x. test x ≡ true) (range_with_len 0 n) k 0 (rw length-range_with_len l) (all_pass test (range_with_len 0 n) e))
