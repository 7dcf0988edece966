use Rattle.pages.specs.Pages.{pages_meant}
use Rattle.pages.proofs.Turns.{putting_more}
use Rattle.pages.proofs.text.put_pages.Goals as goal

pub loop-page-preserved : goal.loop-page-preserved
loop-page-preserved c =
    (putting_more (pages_meant c.args.pages) _ _ _ _ _ c.in-Some.ensures.steps c.loop-page.invariant.0 _ c.requires c.put_page.ensures, tt, tt)
