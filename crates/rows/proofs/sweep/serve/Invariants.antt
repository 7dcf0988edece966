use Rattle.std.proofs.Common.{◌≡◌, map, take, drop}
use Rattle.rows.specs.Sweep.{Turns}
use Rattle.rows.specs.Texts.{text_of}
use Rattle.rows.proofs.sweep.serve.Given as goal

abbrev pub invariant-loop-row : goal.invariant-loop-row
invariant-loop-row g l =
    Turns g.S.Site.model g.S.Site.steps (map text_of l.contents) l.cell (take l.row-index l.initial.rows) l.initial.site
    (take l.row-index l.rows) l.site
    × (drop l.row-index l.rows ≡ drop l.row-index l.initial.rows)
