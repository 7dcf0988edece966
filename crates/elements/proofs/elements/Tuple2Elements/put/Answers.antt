use Rattle.std.proofs.Common.{arith, length-append}
use Rattle.elements.proofs.Appending.{writes_then}
use Rattle.elements.proofs.elements.Tuple2Elements.put.Goals as goal

pub returns : goal.returns
returns g c =
    let xs = g.A.Elements.codec.spell (g.A.Elements.meant c.args.value.0) in
    let ys = g.B.Elements.codec.spell (g.B.Elements.meant c.args.value.1) in
    writes_then xs ys _ _ _ (omega (arith, c.requires.room, length-append xs ys)) c.put.ensures c.put-2.ensures
