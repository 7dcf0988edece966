-- Octets written one behind the other.
use Rattle.std.proofs.Common.{◌≡◌, ℕ, ◌+◌, ◌≤◌, List, [], ◌++◌, length, take, drop, refl, append_assoc, add-zero, add_assoc, arith}
use Rattle.std.proofs.lemmas.List.{length-append, length-take, take_at, drop_at, drop-drop, take-append-drop}
use Rattle.cbsp.specs.Octets.{put}

-- no octets
pub put_none : (at : ℕ) (os : List ℕ) → put [] at os ≡ os
put_none at os = rw (add-zero at) (take-append-drop at os)

-- octets behind octets
pub put_more : (at : ℕ) (xs ys os : List ℕ) (next : ℕ) → next ≡ at + length xs → next ≤ length os → put ys next (put xs at os) ≡ put (xs ++ ys) at os
put_more at xs ys os next e le =
    let p = take at os in
    let q = drop (at + length xs) os in
    let front : length (p ++ xs) ≡ next = omega (arith, length-append {A = ℕ}, length-take {A = ℕ}) in
    let ahead : take next (p ++ (xs ++ q)) ≡ p ++ xs = rw (← append_assoc p xs q) (take_at (p ++ xs) q next front) in
    let rest : drop (next + length ys) (p ++ (xs ++ q)) ≡ drop (at + length (xs ++ ys)) os =
    rw (← append_assoc p xs q, ← drop-drop (length ys) next, drop_at (p ++ xs) q next front, drop-drop (length ys), length-append xs ys, add_assoc at (length xs) (length ys)) refl in
    rw (ahead, rest) (simp append_assoc)
