use Rattle.std.proofs.Common.{arith}
use Rattle.elements.proofs.Appending.{writes_then}
use Rattle.elements.specs.Octets.{one}
use Rattle.pages.specs.Pages.{page_body}
use Rattle.pages.proofs.text.put_page.Goals as goal

pub returns : goal.returns
returns c = writes_then (one 1) (page_body.spell c.args.page) _ _ _ (omega (arith, c.requires)) c.put_octet.ensures c.put.ensures
