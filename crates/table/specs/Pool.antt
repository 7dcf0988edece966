-- Which contents are in use, told from the messages alone: a slot is free while no message holds its number.
use Rattle.std.specs.Prelude.{ℕ, ◌+◌, ◌≤◌, ◌≡◌, Bool, false, not, List, length, slice_index_or, slice_set, take, drop, replicate, Option, ◌==◌}
use Rattle.std.specs.List.{find, position, range_with_len}
use Rattle.std.specs.Option.{option_map_or}
use Rattle.rows.specs.declared.row.Row.{Row}
use Rattle.rows.specs.Keys.{any_of}

abbrev pub has_slot : ℕ → Row → Bool
has_slot s r = r.slot == s

-- a message of the cell has the slot
abbrev pub holds : ℕ → List Row → Bool
holds s rs = any_of (has_slot s) rs

-- some cell has a message with the slot
abbrev pub is_used : List (List Row) → ℕ → Bool
is_used ts s = any_of (holds s) ts

-- the lowest of the 32 slots that is free
unfoldable pub free_slot : List (List Row) → Option ℕ
free_slot ts = find (λ s. not (is_used ts s)) (range_with_len 0 32)

-- for each slot, no cell was passed
abbrev pub none_passed : List ℕ
none_passed = replicate 32 0

-- what is known of passed cells is true: for each slot, they are no more than there are, and none of them holds it
abbrev pub PassedHoldNone : List ℕ → List (List Row) → Type 0
PassedHoldNone passed ts = (s : ℕ) → (slice_index_or passed s 0 ≤ length ts) × (is_used (take (slice_index_or passed s 0) ts) s ≡ false)

-- what is known once the look for a slot went on: as far as the next cell that holds it; nothing more where no further cell does
abbrev pub moved_on : List ℕ → List (List Row) → ℕ → List ℕ
moved_on passed ts s =
    let from = slice_index_or passed s 0 in
    option_map_or (λ n. slice_set passed s (from + n)) (position (holds s) (drop from ts)) passed
