-- The two round trips of a list's entries, for every kind.
use Rattle.std.specs.Prelude.{◌≡◌, ℕ, ◌+◌, ◌≤◌, true, List, ◌++◌, length, take, Ok}
use Rattle.std.specs.List.{AllByRecursion}
use Rattle.elements.specs.declared.faults.EntryFault.{EntryFault}
use Rattle.elements.specs.Octets.{Octets}
use Rattle.lists.specs.Entries.{Entry, Kind, entry_fits, spell_entries, read_entries}

abbrev pub EntryFits : Kind → ℕ → Entry → Type 0
EntryFits k h e = entry_fits k h e ≡ true

-- what was read, spelt, is what stands there
abbrev pub ReadThenSpelt : Type 0
ReadThenSpelt =
    (k : Kind) (broken : EntryFault) (h end : ℕ) (os : List ℕ) (room at : ℕ) (es : List Entry) → Octets os → at ≤ end → end ≤ length os
    → read_entries k broken h end os room at ≡ Ok es
    → (take end os ≡ take at os ++ spell_entries k es) × (length es ≤ room) × AllByRecursion (EntryFits k h) es

-- what was spelt is read
abbrev pub SpeltThenRead : Type 0
SpeltThenRead =
    (k : Kind) (broken : EntryFault) (h : ℕ) (pre post : List ℕ) (room : ℕ) (es : List Entry) → length es ≤ room → AllByRecursion (EntryFits k h) es
    → read_entries k broken h (length pre + length (spell_entries k es)) (pre ++ (spell_entries k es ++ post)) room (length pre) ≡ Ok es
