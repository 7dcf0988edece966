use Rattle.std.proofs.Common.{◌∙◌}
use Rattle.elements.proofs.Appending.{limited_more}
use Rattle.elements.proofs.elements.MustElements.width.Goals as goal

pub returns : goal.returns
returns g c =
    let e = g.E.Element in
    let v = e.meant c.args.value in
    c.limit.ensures ∙ limited_more (e.body.fits v) g.E.Identified.ID (e.body.spell v) c.in_ok-body.body c.in_ok-body.ensures
