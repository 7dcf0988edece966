use Rattle.std.proofs.Common.{arith}
use Rattle.pages.specs.Pages.{pages_meant}
use Rattle.pages.proofs.Counts.{text_wide}
use Rattle.pages.proofs.text.TextElements.width.Goals as goal

pub returns : goal.returns
returns c = text_wide c.args.value.0 (pages_meant c.args.value.1) c.in_ok-count.count (omega arith) c.in_ok-count.ensures
