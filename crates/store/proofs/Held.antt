-- What every store has.
use Rattle.std.proofs.Common.{◌≡◌, length, vec_items, sym, ◌∙◌}
use Rattle.std.proofs.lemmas.List.{length-map}
use Rattle.rows.specs.Held.{rows_of}
use Rattle.store.specs.declared.store.Store.{Store}
use Rattle.store.specs.Held.{cells_held, rows_held}

-- messages are held for each cell
pub rows_known : (s : Store) → length (rows_held s) ≡ length (cells_held s)
rows_known s = length-map (vec_items s.rows) rows_of ∙ sym s.rows.ok.0 ∙ s.known
