use Rattle.std.proofs.Common.{arith}
use Rattle.std.proofs.lemmas.List.{length-take}
use Rattle.site.specs.declared.message.Page.{Page}
use Rattle.frame.proofs.Puts.{no_page_written, page_written}
use Rattle.frame.proofs.record.write_pages.Goals as goal

pub loop-index-init : goal.loop-index-init
loop-index-init c = no_page_written _ _ _

pub loop-index-preserved : goal.loop-index-preserved
loop-index-preserved c = page_written _ _ _ _ _ _ _ (omega arith) (omega (arith, length-take {A = Page})) c.write_page.ensures.size c.write_page.ensures.written c.loop-index.invariant
