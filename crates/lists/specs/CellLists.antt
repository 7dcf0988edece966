-- The Cell List: all cells, which has no entries, or those of its entries.
use Rattle.std.specs.Prelude.{ℕ, ◌+◌, Bool, true, cond, ◌&&◌, List, [], ◌∷◌, Ok, Err, Result, ◌==◌, nat_lt, slice_index}
use Rattle.elements.specs.declared.faults.ElementFault.{ElementFault}
use Rattle.elements.specs.declared.faults.ElementFault.TheVariants.{OutOfRange}
use Rattle.elements.specs.Octets.{then}
use Rattle.elements.specs.Codec.{Body}
use Rattle.lists.specs.declared.cells.Cells.{Cells}
use Rattle.lists.specs.declared.cells.Cells.TheVariants.{All, Named}
use Rattle.lists.specs.Entries.{Entry}
use Rattle.lists.specs.Kinds.{cell_kind, cell_meant}
use Rattle.lists.specs.Listed.{listed, Whole}
use Rattle.lists.specs.Lists.{end_of, read_list, list_octets, lengthed, list_fits}

pub data CellsV : Type 0 where
  all : CellsV
  named : List Entry → CellsV

abbrev pub cells_meant : Cells → CellsV
cells_meant All = all
cells_meant (Named v) = named (listed cell_kind cell_meant v)

-- the view can give as many entries as it counts
abbrev pub WholeCells : Cells → Type 0
WholeCells All = Unit {0}
WholeCells (Named v) = Whole cell_kind cell_meant v

abbrev pub as_named : Result (List Entry × ℕ) ElementFault → Result (CellsV × ℕ) ElementFault
as_named (Ok p) = Ok (named p.0, p.1)
as_named (Err e) = Err e

-- the discriminator 6 has no entries: with some, the entry count is bad
abbrev pub read_cells : List ℕ → ℕ → ℕ → Result (CellsV × ℕ) ElementFault
read_cells os at body =
    then (end_of os at body)
    (λ end. cond (nat_lt (body + 2) end && slice_index os (body + 2) == 6) (cond (body + 3 == end) (Ok (all, end)) (Err (OutOfRange body)))
    (as_named (read_list cell_kind os at body)))

abbrev pub cells_octets : CellsV → List ℕ
cells_octets all = 6 ∷ []
cells_octets (named es) = list_octets cell_kind es

abbrev pub cells_fit : CellsV → Bool
cells_fit all = true
cells_fit (named es) = list_fits cell_kind es

abbrev pub cell_list : Body CellsV
cell_list = record { spell = λ v. lengthed (cells_octets v); fits = cells_fit; read = read_cells }
