use Rattle.site.specs.Messages.{aired}
use Rattle.frame.proofs.Puts.{PagesWritten}
use Rattle.frame.proofs.record.write_pages.Given as goal

abbrev pub invariant-loop-index : goal.invariant-loop-index
invariant-loop-index l = PagesWritten (aired l.message) l.aired l.index l.initial.space l.space
