use Rattle.std.proofs.Common.{arith}
use Rattle.messages.proofs.MessageLaws.{spelt_from}
use Rattle.messages.proofs.reading.read_message.Goals as goal

pub returns : goal.returns
returns c =
    record {
      value = c.read_checked.ensures;
      spelt = spelt_from c.args.octets.now c.read_checked.result (λ k. omega (arith, c.type_inv.octets k)) c.read_checked.ensures;
    }
