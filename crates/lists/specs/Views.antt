-- The entries of a view.
use Rattle.std.specs.Prelude.{ℕ, zero, suc, cond, List, [], ◌∷◌, Ok, Err, Result, nat_lt}
use Rattle.elements.specs.declared.faults.EntryFault.{EntryFault}
use Rattle.lists.specs.Entries.{Entry, Kind, read_entry}

-- the first of what was read, before what comes after it; nothing after a fault
abbrev pub onward : Result (Entry × ℕ) EntryFault → (ℕ → List Entry) → List Entry
onward (Ok p) rest = p.0 ∷ rest p.1
onward (Err f) rest = []

-- the next `left` entries from a place, up to the first that cannot be read
unfoldable pub entries_from : Kind → EntryFault → ℕ → ℕ → List ℕ → ℕ → ℕ → List Entry
entries_from k broken h end os zero at = []
entries_from k broken h end os (suc left) at = cond (nat_lt at end) (onward (read_entry k broken h end os at) (entries_from k broken h end os left)) []
