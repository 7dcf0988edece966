-- List elements: what an entry of each kind is in octets, and how entries are read.
use Rattle.std.specs.Prelude.{◌≡◌, ℕ, zero, suc, ◌+◌, ◌≤◌, Bool, true, false, cond, ◌&&◌, List, [], ◌∷◌, ◌++◌, length, take, drop, Some, None, Ok, Err, Option, Result, ◌==◌, nat_le, nat_lt, slice_index}
use Rattle.std.specs.List.{flat_map}
use Rattle.elements.specs.declared.faults.EntryFault.{EntryFault}
use Rattle.elements.specs.Octets.{then}
use Rattle.lists.specs.declared.cell.CellIdentity.{CellIdentity}
use Rattle.lists.specs.Cells.{form_of, cell_octets, read_cell}
use Rattle.lists.specs.Forms.{form_from}

-- an entry: whom it names, and the octets after the identity
pub record Entry : Type 0 where
  pub cell : CellIdentity
  pub tail : List ℕ

-- a kind of list: how many octets an entry has after its identity, whether the discriminator stands in the heading or in
-- each entry, how many entries there may be, which discriminators may stand, and which of the octets after an identity is out of range
pub record Kind : Type 0 where
  pub tail : ℕ
  pub headed : Bool
  pub most : ℕ
  pub forms : ℕ → Bool
  pub flaw : List ℕ → Option ℕ

-- an entry's own discriminator, where it has one
abbrev pub own_form : Bool → ℕ → List ℕ
own_form true d = []
own_form false d = d ∷ []

abbrev pub spell_entry : Kind → Entry → List ℕ
spell_entry k e = own_form k.headed (form_of e.cell) ++ (cell_octets e.cell ++ e.tail)

abbrev pub spell_entries : Kind → List Entry → List ℕ
spell_entries k es = flat_map (spell_entry k) es

-- the discriminator of the entry at a place, and the place of its identity
abbrev pub form_at : Bool → ℕ → List ℕ → ℕ → ℕ × ℕ
form_at true h os at = (h, at)
form_at false h os at = (slice_index os at, at + 1)

-- the same, where that discriminator may stand, and otherwise it is placed at itself
abbrev pub read_form : Kind → ℕ → List ℕ → ℕ → Result (ℕ × ℕ) EntryFault
read_form k h os at = cond (k.forms (form_at k.headed h os at).0) (Ok (form_at k.headed h os at)) (Err (record { place = at }))

-- the octets after the identity; an octet out of range is placed at itself
abbrev pub checked : Option ℕ → Entry → ℕ → ℕ → Result (Entry × ℕ) EntryFault
checked None e at next = Ok (e, next)
checked (Some i) e at next = Err (record { place = at + i })

abbrev pub read_tail : Kind → EntryFault → ℕ → List ℕ → CellIdentity × ℕ → Result (Entry × ℕ) EntryFault
read_tail k broken end os p =
    cond (nat_le (p.1 + k.tail) end)
    (checked (k.flaw (take k.tail (drop p.1 os))) (record { cell = p.0; tail = take k.tail (drop p.1 os) }) p.1 (p.1 + k.tail))
    (Err broken)

-- the entry at a place before `end`, and the place after it, in a list whose heading has the discriminator h;
-- an entry that ends past `end` is broken, and a discriminator that may not stand is placed at itself
abbrev pub read_entry : Kind → EntryFault → ℕ → ℕ → List ℕ → ℕ → Result (Entry × ℕ) EntryFault
read_entry k broken h end os at =
    cond (k.forms (form_at k.headed h os at).0)
    (then (read_cell broken (form_at k.headed h os at).0 end os (form_at k.headed h os at).1) (read_tail k broken end os))
    (Err (record { place = at }))

-- an entry before entries
abbrev pub before : {E : Type 0} → Entry → Result (List Entry) E → Result (List Entry) E
before e (Ok es) = Ok (e ∷ es)
before e (Err f) = Err f

-- the entries from a place to `end`, of which there may be `room`
abbrev pub read_entries : Kind → EntryFault → ℕ → ℕ → List ℕ → ℕ → ℕ → Result (List Entry) EntryFault
read_entries k broken h end os zero at = cond (nat_lt at end) (Err broken) (Ok [])
read_entries k broken h end os (suc room) at =
    cond (nat_lt at end) (then (read_entry k broken h end os at) (λ p. before p.0 (read_entries k broken h end os room p.1))) (Ok [])

-- entries before entries
abbrev pub prefixed : {F : Type 0} → List Entry → Result (List Entry) F → Result (List Entry) F
prefixed es (Ok fs) = Ok (es ++ fs)
prefixed es (Err f) = Err f

-- where the heading has the discriminator, an entry has that one
abbrev pub formed : Bool → ℕ → ℕ → Bool
formed true h d = d == h
formed false h d = true

abbrev pub unflawed : Option ℕ → Bool
unflawed None = true
unflawed (Some i) = false

-- an entry that a list with the discriminator h can have
abbrev pub entry_fits : Kind → ℕ → Entry → Bool
entry_fits k h e = formed k.headed h (form_of e.cell) && (k.forms (form_of e.cell) && (length e.tail == k.tail && unflawed (k.flaw e.tail)))

-- an entry with as many octets after its identity as its kind says, and none out of range
pub record Sound (k : Kind) (e : Entry) : Type 0 where
  pub width : length e.tail ≡ k.tail
  pub unbroken : unflawed (k.flaw e.tail) ≡ true

-- what the constants of a kind of entry are to it
pub record Stated (k : Kind) (tail : ℕ) (headed : Bool) (most : ℕ) : Type 0 where
  pub tail_is : k.tail ≡ tail
  pub headed_is : k.headed ≡ headed
  pub most_is : k.most ≡ most
  pub few_octets : tail ≤ 250
  pub few_entries : most ≤ 255

-- only the code of a discriminator may stand for one
abbrev pub Known : Kind → Type 0
Known k = (o : ℕ) → form_from o ≡ None → k.forms o ≡ false
