use Rattle.std.proofs.Common.{◌∙◌, rules, tests}
use Rattle.std.proofs.lemmas.Iterator.{YieldsList-from_slice}
use Rattle.std.proofs.lemmas.Iterator.Search.{position_from_yields_List}
use Rattle.rows.specs.Held.{rows_of}
use Rattle.table.specs.Pool.{holds}
use Rattle.table.proofs.Searching.{position_of_map}
use Rattle.table.proofs.pool.holder.Goals as goal

pub returns-clause-value : goal.returns-clause-value
returns-clause-value c =
    position_from_yields_List (λ cell. holds c.args.slot (rows_of cell)) _ _ _ c.position.ensures.ran (YieldsList-from_slice c.args.cells.now cc)
    (λ x b q k. search (rules, tests))
    ∙ position_of_map (holds c.args.slot) rows_of c.args.cells.now
