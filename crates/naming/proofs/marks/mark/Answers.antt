use Rattle.std.proofs.Common.{refl, rules}
use Rattle.naming.proofs.Clearing.{fewer_at}
use Rattle.naming.proofs.marks.mark.Goals as goal

pub returns : goal.returns
returns c =
    record {
      value = search rules;
      fewer = fewer_at c.args.octets.now c.args.cell c.if-cell-octets.false c.if-octets-cell-ne0.false;
      after = refl;
    }
