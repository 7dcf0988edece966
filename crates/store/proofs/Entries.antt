-- The cells as a Cell List names them.
use Rattle.std.proofs.Common.{◌≡◌, List, [], ◌∷◌, map, refl, ap}
use Rattle.answering.specs.Replies.{entry_of}
use Rattle.cells.specs.declared.cell.Cell.{Cell}
use Rattle.lists.specs.Entries.{Entry}
use Rattle.lists.specs.Kinds.{cell_meant}
use Rattle.store.specs.Entries.{list_entry}

pub entries_mean : (cs : List Cell) → map cell_meant (map list_entry cs) ≡ map entry_of cs
entries_mean [] = refl
entries_mean (c ∷ cs) = ap (λ (es : List Entry). entry_of c ∷ es) (entries_mean cs)
