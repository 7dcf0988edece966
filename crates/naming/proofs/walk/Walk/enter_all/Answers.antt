use Rattle.std.proofs.Common.{rules}
use Rattle.naming.specs.Walks.{stage_of}
use Rattle.naming.proofs.Clearing.{at_most_entered}
use Rattle.naming.proofs.walk.Walk.enter_all.Goals as goal

pub loop-given-preserved : goal.loop-given-preserved
loop-given-preserved c =
    let more =
    at_most_entered c.args.cells.now (stage_of c.loop-given.self) (stage_of c.enter.new.self) c.in-Some.given.cell c.enter.ensures.entered in
    search rules
