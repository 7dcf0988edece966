use Rattle.pages.specs.Pages.{pages_meant}
use Rattle.pages.proofs.Turns.{Putting}
use Rattle.pages.proofs.text.put_pages.Given as goal

abbrev pub invariant-loop-page : goal.invariant-loop-page
invariant-loop-page l = Putting (pages_meant l.pages) (pages_meant l.page-iterator) l.initial.writer l.writer × (goal.iterator-loop-page).can_next l.page-iterator × (goal.iterator-loop-page).is_finite l.page-iterator
