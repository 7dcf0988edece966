use Rattle.std.proofs.Common.{map}
use Rattle.rows.specs.Held.{rows_of}
use Rattle.table.specs.Write.{row_of}
use Rattle.table.proofs.Searching.{one_more_fits}
use Rattle.table.proofs.write.step.begin.Goals as goal

pub returns-clause-passed : goal.returns-clause-passed
returns-clause-passed c =
    rw (c.restart.ensures, c.push_at.ensures, c.row_of.ensures)
    (one_more_fits c.slot_for.new.search.passed (map rows_of c.args.rows.now) c.slot_for.ensures.passed c.args.cell (row_of c.args.asked.now c.in_ok-own.own))
