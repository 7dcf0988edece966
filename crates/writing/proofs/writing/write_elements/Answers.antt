use Rattle.std.proofs.Common.{rules, arith}
use Rattle.cbsp.specs.Types.{type_code}
use Rattle.writing.proofs.Headed.{can, wrote}
use Rattle.writing.proofs.writing.write_elements.Goals as goal

pub returns : goal.returns
returns g c =
    let e = g.E.Elements in
    let v = e.meant c.args.value in
    let t = type_code c.args.kind in (
      can (e.codec.fits v) t (e.codec.spell v) c.in-Some.width c.in-Some.ensures (omega arith),
      wrote (e.codec.fits v) t (e.codec.spell v) c.in-Some.width c.in-Some.ensures c.into.result c.args.out.now _ c.new-writer.result _ _ c.put.new.writer c.into.ensures c.new-writer.ensures.octets c.new-writer.ensures.front (omega arith)
          c.put_octet.ensures c.put_three.ensures c.put.ensures (search rules),
    )
