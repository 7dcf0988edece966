use Rattle.std.proofs.Common.{arith}
use Rattle.elements.specs.Octets.{one}
use Rattle.elements.proofs.Appending.{writes_then}
use Rattle.pages.proofs.content.MessageContentElement.put.Goals as goal

pub returns : goal.returns
returns c = writes_then (one c.args.value.used) c.args.value.content _ _ _ (omega (arith, c.requires)) c.put_octet.ensures c.put_octets.ensures
