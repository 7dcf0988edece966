-- The entries that a list has still to give, and what its readers answer.
use Rattle.std.specs.Prelude.{◌≡◌, ℕ, ◌+◌, List, [], ◌∷◌, map, length, Some, None, Ok, Err, Option, Result}
use Rattle.elements.specs.declared.faults.EntryFault.{EntryFault}
use Rattle.lists.specs.declared.entries.EntryView.{EntryView}
use Rattle.lists.specs.declared.entries.Entries.{Entries}
use Rattle.lists.specs.declared.entries.Entries.TheVariants.{Read, Given}
use Rattle.lists.specs.Entries.{Entry, Kind}
use Rattle.lists.specs.Forms.{form_number}
use Rattle.lists.specs.Views.{entries_from}

abbrev pub viewed : {E : Type 0} → Kind → EntryView E → List Entry
viewed k v = entries_from k v.head.broken (form_number v.head.form) (length v.reader.octets.now) v.reader.octets.now v.left v.reader.at

abbrev pub listed : {E : Type 0} → Kind → (E → Entry) → Entries E → List Entry
listed k m (Read v) = viewed k v
listed k m (Given s) = map m s.now

-- how many turns are left at most
abbrev pub left_of : {E : Type 0} → Entries E → ℕ
left_of (Read v) = v.left
left_of (Given s) = length s.now

-- n entries, which are those of the definition, or its fault
abbrev pub Counted : Result ℕ EntryFault → (ℕ → List Entry) → Result (List Entry) EntryFault → Type 0
Counted (Ok n) from s = (s ≡ Ok (from n)) × (length (from n) ≡ n)
Counted (Err f) from s = s ≡ Err f

-- the first of the entries, and the others stay; or there is none
abbrev pub Next : {E : Type 0} → (E → Entry) → Option E → List Entry → List Entry → Type 0
Next m None was is = (was ≡ []) × (is ≡ [])
Next m (Some e) was is = was ≡ m e ∷ is

-- and one less is left to give
abbrev pub Fewer : {E : Type 0} → Option E → ℕ → ℕ → Type 0
Fewer None was is = is ≡ was
Fewer (Some e) was is = is + 1 ≡ was

-- a list gives as many entries as it counts
abbrev pub Whole : {E : Type 0} → Kind → (E → Entry) → Entries E → Type 0
Whole k m v = length (listed k m v) ≡ left_of v
