-- One cell among all, by its messages.
use Rattle.std.proofs.Common.{◌≡◌, ℕ, ◌<◌, List, [], map, length, get_or, set, sym}
use Rattle.std.proofs.lemmas.List.{get_or-map, map-set}
use Rattle.rows.specs.declared.rows.Rows.{Rows}
use Rattle.rows.specs.Held.{rows_of}

pub there : (cs : List Rows) (k : ℕ) (d : Rows) → k < length cs → rows_of (get_or cs k d) ≡ get_or (map rows_of cs) k []
there cs k d within = sym (get_or-map rows_of cs k d [] within)

-- the cell now has other messages
pub moved : (cs : List Rows) (k : ℕ) (x : Rows) → map rows_of (set cs k x) ≡ set (map rows_of cs) k (rows_of x)
moved cs k x = map-set rows_of cs k x
