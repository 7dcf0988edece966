use Rattle.std.proofs.Common.{◌∙◌}
use Rattle.elements.proofs.Appending.{limited_both}
use Rattle.elements.proofs.elements.Tuple2Elements.width.Goals as goal

pub returns : goal.returns
returns g c =
    let a = g.A.Elements in
    let b = g.B.Elements in
    let v = a.meant c.args.value.0 in
    let w = b.meant c.args.value.1 in
    c.limit.ensures
    ∙ limited_both (a.codec.fits v) (b.codec.fits w) (a.codec.spell v) (b.codec.spell w) c.in_ok-first.first c.in_ok-second.second c.in_ok-first.ensures c.in_ok-second.ensures
