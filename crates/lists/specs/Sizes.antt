-- How entries end, by their discriminators alone.
use Rattle.std.specs.Prelude.{ℕ, zero, suc, ◌+◌, Bool, false, cond, ◌&&◌, ◌||◌, List, Some, None, Ok, Err, Option, Result, nat_lt}
use Rattle.elements.specs.declared.faults.EntryFault.{EntryFault}
use Rattle.lists.specs.Cells.{cell_width}
use Rattle.lists.specs.Entries.{Entry, Kind, form_at}

-- the place after an entry; nothing is known of it where the discriminator may not stand
abbrev pub entry_end : Kind → ℕ → List ℕ → ℕ → Option ℕ
entry_end k h os at =
    cond (k.forms (form_at k.headed h os at).0) (Some ((form_at k.headed h os at).1 + cell_width (form_at k.headed h os at).0 + k.tail)) None

-- an entry breaks off at `end`, or what follows it is ill sized
abbrev pub ends_ill : Option ℕ → ℕ → (ℕ → Bool) → Bool
ends_ill None end rest = false
ends_ill (Some next) end rest = nat_lt end next || rest next

-- from a place on an entry breaks off at `end`, or there are more than `room`
abbrev pub ill_sized : Kind → ℕ → ℕ → List ℕ → ℕ → ℕ → Bool
ill_sized k h end os zero at = nat_lt at end
ill_sized k h end os (suc room) at = nat_lt at end && ends_ill (entry_end k h os at) end (ill_sized k h end os room)

-- the fault of entries that are ill sized is placed before all that is in them
abbrev pub first_fault : Bool → EntryFault → Result (List Entry) EntryFault → Result (List Entry) EntryFault
first_fault ill broken (Ok es) = Ok es
first_fault ill broken (Err f) = Err (cond ill broken f)
