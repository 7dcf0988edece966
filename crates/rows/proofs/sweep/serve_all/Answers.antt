use Rattle.std.proofs.Common.{◌^◌, ◌<◌, List, [], map}
use Rattle.std.specs.List.{AllByRecursion}
use Rattle.rows.specs.declared.row.Row.{Row}
use Rattle.rows.specs.Held.{rows_of}
use Rattle.rows.specs.Sweep.{Turns}
use Rattle.rows.specs.Texts.{text_of}
use Rattle.rows.proofs.Turning.{told_all_at, told_rest, told_more}
use Rattle.rows.proofs.sweep.serve_all.Goals as goal

pub serve-requires : goal.serve-requires
serve-requires g c =
    told_all_at rows_of c.args.cells.now c.loop-cell.cells c.loop-cell.cell _ [] c.loop-cell-test.true c.loop-cell.auto.cells
    c.loop-cell.invariant.1 (λ (rs : List Row). AllByRecursion (λ r. r.count < 2 ^ 63) rs) c.requires

pub loop-cell-preserved : goal.loop-cell-preserved
loop-cell-preserved g c =
    let i = c.loop-cell.cell in
    let cs = c.args.cells.now in
    let ds = c.loop-cell.cells in (
      told_more rows_of cs ds i _ [] c.loop-cell-test.true c.loop-cell.auto.cells c.loop-cell.invariant.1
          (Turns g.S.Site.model g.S.Site.steps (map text_of c.args.contents.now)) c.serve.new.self c.args.site.now _ _ c.loop-cell.invariant.0
          c.serve.ensures,
      told_rest rows_of cs ds i c.index-cells-cell.result [] c.loop-cell-test.true c.loop-cell.auto.cells c.loop-cell.invariant.1 c.serve.new.self,
    )
