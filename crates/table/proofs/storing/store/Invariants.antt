use Rattle.std.proofs.Common.{◌≡◌, ◌+◌, ◌≤◌, ◌++◌, map, length}
use Rattle.pages.specs.Pages.{pages_meant}
use Rattle.rows.specs.Texts.{text_of}
use Rattle.table.specs.Storing.{on_air}
use Rattle.table.proofs.storing.store.Given as goal

abbrev pub invariant-loop-page : goal.invariant-loop-page
invariant-loop-page l =
    ((text_of l.content).pages ++ map on_air (pages_meant l.page-iterator) ≡ map on_air (pages_meant l.pages))
    × ((text_of l.content).coding ≡ l.coding)
    × (length (text_of l.content).pages + length (pages_meant l.page-iterator) ≤ 15)
    × (goal.iterator-loop-page).can_next l.page-iterator
    × (goal.iterator-loop-page).is_finite l.page-iterator
