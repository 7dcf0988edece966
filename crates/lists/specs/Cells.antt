-- How an entry names cells, in octets.
use Rattle.std.specs.Prelude.{ℕ, ◌+◌, cond, List, [], ◌∷◌, ◌++◌, Ok, Err, Result, ◌==◌, nat_le, slice_index}
use Rattle.elements.specs.declared.faults.EntryFault.{EntryFault}
use Rattle.cbsp.specs.Octets.{two_at}
use Rattle.elements.specs.Octets.{two}
use Rattle.lists.specs.declared.cell.CellIdentity.{CellIdentity}
use Rattle.lists.specs.declared.cell.CellIdentity.TheVariants.{LacCi, Ci, Lac, All}

-- the discriminator that says how an identity is written
abbrev pub form_of : CellIdentity → ℕ
form_of (LacCi l c) = 1
form_of (Ci c) = 2
form_of (Lac l) = 5
form_of All = 6

-- where all cells are named in an entry, one zero octet stands for the identity
abbrev pub cell_octets : CellIdentity → List ℕ
cell_octets (LacCi l c) = two l ++ two c
cell_octets (Ci c) = two c
cell_octets (Lac l) = two l
cell_octets All = 0 ∷ []

-- how many octets these are
abbrev pub cell_width : ℕ → ℕ
cell_width form = cond (form == 1) 4 (cond (form == 6) 1 2)

-- the identity at a place, and the place after it; `broken` where it ends past `end`
abbrev pub read_cell : EntryFault → ℕ → ℕ → List ℕ → ℕ → Result (CellIdentity × ℕ) EntryFault
read_cell broken form end os at =
    cond (form == 1) (cond (nat_le (at + 4) end) (Ok (LacCi (two_at os at) (two_at os (at + 2)), at + 4)) (Err broken))
    (cond (form == 2) (cond (nat_le (at + 2) end) (Ok (Ci (two_at os at), at + 2)) (Err broken))
    (cond (form == 5) (cond (nat_le (at + 2) end) (Ok (Lac (two_at os at), at + 2)) (Err broken))
    (cond (form == 6) (cond (nat_le (at + 1) end) (cond (slice_index os at == 0) (Ok (All, at + 1)) (Err (record { place = at }))) (Err broken)) (Err broken))))
