use Rattle.std.proofs.Common.{List, [], map, refl, subst, sym}
use Rattle.rows.specs.declared.row.Row.{Row}
use Rattle.rows.specs.Held.{rows_of}
use Rattle.table.specs.Pool.{PassedHoldNone}
use Rattle.table.proofs.Searching.{fewer_fit}
use Rattle.table.proofs.references.ResetCellRequest.apply.Goals as goal

pub returns-clause-passed : goal.returns-clause-passed
returns-clause-passed c =
    let passed = c.args._search.now.passed in
    subst (λ (ts : List (List Row)). PassedHoldNone passed ts) (sym c.clear_at.ensures) (fewer_fit passed (map rows_of c.args.rows.now) c.requires.passed c.args.cell [] (λ s h. refl))
