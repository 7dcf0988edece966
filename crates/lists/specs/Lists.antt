-- List elements: a length of two octets, the discriminator where the kind has it in the heading, the entries.
use Rattle.std.specs.Prelude.{ℕ, ◌+◌, Bool, true, false, cond, ◌&&◌, List, [], ◌∷◌, ◌++◌, length, take, Ok, Err, Result, nat_le, nat_lt, slice_index}
use Rattle.elements.specs.declared.faults.ElementFault.{ElementFault}
use Rattle.elements.specs.declared.faults.EntryFault.{EntryFault}
use Rattle.elements.specs.declared.faults.ElementFault.TheVariants.{RunsPast, OutOfRange}
use Rattle.elements.specs.Faults.{out_of_range}
use Rattle.cbsp.specs.Octets.{two_at}
use Rattle.elements.specs.Octets.{two, then, raised}
use Rattle.elements.specs.Elements.{within}
use Rattle.elements.specs.Codec.{Body}
use Rattle.lists.specs.Cells.{form_of}
use Rattle.lists.specs.Entries.{Entry, Kind, entry_fits, read_entries, spell_entries}
use Rattle.lists.specs.Sizes.{first_fault, ill_sized}

-- where a list ends whose length stands at `body`; the element begins at `at`
abbrev pub end_of : List ℕ → ℕ → ℕ → Result ℕ ElementFault
end_of os at body =
    cond (nat_le (body + 2) (length os))
    (cond (nat_le (body + 2 + two_at os body) (length os)) (Ok (body + 2 + two_at os body)) (Err (RunsPast at)))
    (Err (RunsPast at))

-- the discriminator in the heading and the place of the first entry; where the list ends before it, the fault is placed
-- at the length, and a discriminator that may not stand is placed at itself
abbrev pub heading : Bool → (ℕ → Bool) → List ℕ → ℕ → ℕ → Result (ℕ × ℕ) ElementFault
heading false forms os body end = Ok (0, body + 2)
heading true forms os body end =
    cond (nat_lt (body + 2) end)
    (cond (forms (slice_index os (body + 2))) (Ok (slice_index os (body + 2), body + 3)) (Err (OutOfRange (body + 2))))
    (Err (OutOfRange body))

-- at least one entry
abbrev pub some : ℕ → ℕ → List Entry → Result (List Entry × ℕ) ElementFault
some body end [] = Err (OutOfRange body)
some body end (e ∷ es) = Ok (e ∷ es, end)

-- a bad entry count and a broken entry are placed at the length, also where an octet of an entry before it is out of range
abbrev pub all_entries : Kind → List ℕ → ℕ → ℕ → ℕ × ℕ → Result (List Entry) EntryFault
all_entries k os body end p =
    first_fault (ill_sized k p.0 end (take end os) k.most p.1) (record { place = body })
    (read_entries k (record { place = body }) p.0 end (take end os) k.most p.1)

abbrev pub read_body : Kind → List ℕ → ℕ → ℕ → ℕ × ℕ → Result (List Entry × ℕ) ElementFault
read_body k os body end p = then (raised out_of_range (all_entries k os body end p)) (some body end)

abbrev pub read_list : Kind → List ℕ → ℕ → ℕ → Result (List Entry × ℕ) ElementFault
read_list k os at body = then (end_of os at body) (λ end. then (heading k.headed k.forms os body end) (read_body k os body end))

-- the discriminator of the first entry, and whether the heading has it
abbrev pub head_form : List Entry → ℕ
head_form [] = 0
head_form (e ∷ es) = form_of e.cell

abbrev pub led_by : Bool → ℕ → List ℕ
led_by true d = d ∷ []
led_by false d = []

abbrev pub list_octets : Kind → List Entry → List ℕ
list_octets k es = led_by k.headed (head_form es) ++ spell_entries k es

-- octets after a length of two octets
abbrev pub lengthed : List ℕ → List ℕ
lengthed xs = two (length xs) ++ xs

abbrev pub every : (Entry → Bool) → List Entry → Bool
every test [] = true
every test (e ∷ es) = test e && every test es

abbrev pub list_fits : Kind → List Entry → Bool
list_fits k es = within 1 k.most (length es) && every (entry_fits k (head_form es)) es

abbrev pub entry_list : Kind → Body (List Entry)
entry_list k = record { spell = λ es. lengthed (list_octets k es); fits = list_fits k; read = read_list k }
