use Rattle.std.proofs.Common.{◌≡◌, map}
use Rattle.rows.specs.Held.{rows_of}
use Rattle.table.specs.Pool.{PassedHoldNone, free_slot}
use Rattle.table.proofs.Searching.{free_from}
use Rattle.table.proofs.pool.Search.free_slot.Given as goal

abbrev pub invariant-loop-slot : goal.invariant-loop-slot
invariant-loop-slot l =
    PassedHoldNone l.self.passed (map rows_of l.cells)
    × (free_slot (map rows_of l.cells) ≡ free_from (map rows_of l.cells) l.slot)
