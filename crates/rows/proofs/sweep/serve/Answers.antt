use Rattle.std.proofs.Common.{map}
use Rattle.rows.specs.Sweep.{Turn, lowered}
use Rattle.rows.specs.Texts.{text_of}
use Rattle.rows.proofs.Linking.{linked_more, rest_more}
use Rattle.rows.proofs.sweep.serve.Goals as goal

pub loop-row-preserved : goal.loop-row-preserved
loop-row-preserved g c =
    let i = c.loop-row.row-index in
    let xs = c.args.rows.now in
    let ys = c.loop-row.rows in (
      linked_more (λ _ r u x v. Turn g.S.Site.model g.S.Site.steps (map text_of c.args.contents.now) c.args.cell (lowered r) u x v) xs ys i _
          c.take_turn.new.row c.args.site.now _ _ c.loop-row-test.true c.loop-row.auto.rows c.loop-row.invariant.1 c.loop-row.invariant.0
          c.take_turn.ensures,
      rest_more xs ys i c.take_turn.new.row c.loop-row.invariant.1,
    )
