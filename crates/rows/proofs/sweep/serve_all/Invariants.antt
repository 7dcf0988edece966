use Rattle.std.proofs.Common.{◌≡◌, map, take, drop}
use Rattle.rows.specs.Held.{rows_of}
use Rattle.rows.specs.Sweep.{Served}
use Rattle.rows.specs.Texts.{text_of}
use Rattle.rows.proofs.sweep.serve_all.Given as goal

abbrev pub invariant-loop-cell : goal.invariant-loop-cell
invariant-loop-cell g l =
    Served g.S.Site.model g.S.Site.steps (map text_of l.contents) (take l.cell (map rows_of l.initial.cells)) l.initial.site
    (take l.cell (map rows_of l.cells)) l.site
    × (drop l.cell (map rows_of l.cells) ≡ drop l.cell (map rows_of l.initial.cells))
