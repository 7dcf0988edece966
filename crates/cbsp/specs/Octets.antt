-- Octets: numbers of two, and what stands after some were written.
use Rattle.std.specs.Prelude.{ℕ, ◌+◌, ◌*◌, List, ◌++◌, length, take, drop, slice_index}

-- the number that two octets are, the most significant first
abbrev pub two_at : List ℕ → ℕ → ℕ
two_at os at = slice_index os at * 256 + slice_index os (at + 1)

-- os with xs written over it from a place
abbrev pub put : List ℕ → ℕ → List ℕ → List ℕ
put xs at os = take at os ++ (xs ++ drop (at + length xs) os)
