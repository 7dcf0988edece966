use Rattle.std.proofs.Common.{map, refl, arith}
use Rattle.rows.specs.Held.{rows_of}
use Rattle.table.proofs.Searching.{none_fit}
use Rattle.table.proofs.handling.handle.Goals as goal

pub loop-naming-init : goal.loop-naming-init
loop-naming-init g c = (refl, omega arith, rw c.new-search.ensures (none_fit (map rows_of c.args.rows.now)))
