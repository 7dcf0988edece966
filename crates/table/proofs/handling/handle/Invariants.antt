use Rattle.std.proofs.Common.{◌≡◌, ◌+◌, map, drop, length}
use Rattle.rows.specs.Held.{rows_of}
use Rattle.table.specs.Handling.{handled, stage}
use Rattle.table.specs.Pool.{PassedHoldNone}
use Rattle.table.proofs.handling.handle.Given as goal

abbrev pub invariant-loop-naming : goal.invariant-loop-naming
invariant-loop-naming g l =
    (handled g.R.CellRequest.acts l.cells (g.S.Site.model l.site).opened
    (stage l.request (map rows_of l.rows) l.out) (drop l.naming-index l.namings)
    ≡ handled g.R.CellRequest.acts l.cells (g.S.Site.model l.site).opened
    (stage l.initial.request (map rows_of l.initial.rows) l.initial.out) l.namings)
    × (length l.out ≡ length l.initial.out + l.naming-index)
    × PassedHoldNone l.search.passed (map rows_of l.rows)
