use Rattle.std.proofs.Common.{List, map, subst, sym}
use Rattle.rows.specs.declared.row.Row.{Row}
use Rattle.rows.specs.Held.{rows_of}
use Rattle.rows.specs.Keys.{is_same, without}
use Rattle.table.specs.AtCell.{rows_at}
use Rattle.table.specs.Pool.{PassedHoldNone}
use Rattle.table.proofs.Searching.{fewer_fit, without_holds}
use Rattle.table.proofs.references.KillCellRequest.apply.Goals as goal

pub returns-clause-passed : goal.returns-clause-passed
returns-clause-passed c =
    let passed = c.args._search.now.passed in
    let here = rows_at c.args.rows.now c.args.cell in
    let test = is_same c.args.self.now.key in
    subst (λ (ts : List (List Row)). PassedHoldNone passed ts) (sym c.take_at.ensures.after)
    (fewer_fit passed (map rows_of c.args.rows.now) c.requires.passed c.args.cell (without test here) (λ s h. without_holds test here s h))
