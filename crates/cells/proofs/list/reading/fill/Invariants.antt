use Rattle.std.proofs.Common.{◌≡◌, map, length}
use Rattle.std.specs.List.{range_with_len}
use Rattle.cells.specs.File.{cell_at}
use Rattle.cells.proofs.list.reading.fill.Given as goal

abbrev pub invariant-loop-k : goal.invariant-loop-k
invariant-loop-k l =
    (l.cells ≡ map (cell_at l.file.octets.now) (range_with_len 0 l.k)) × (length l.cells ≡ l.k)
