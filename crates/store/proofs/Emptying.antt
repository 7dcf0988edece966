-- One cell emptied.
use Rattle.std.proofs.Common.{◌≡◌, ℕ, List, [], map, set, refl}
use Rattle.std.proofs.lemmas.List.{map-set}
use Rattle.rows.specs.declared.rows.Rows.{Rows}
use Rattle.rows.specs.Held.{rows_of}

pub emptied_at : (cs : List Rows) (k : ℕ) (x : Rows) → rows_of x ≡ [] → map rows_of (set cs k x) ≡ set (map rows_of cs) k []
emptied_at cs k x e = rw (map-set rows_of cs k x, e) refl
