use Rattle.std.proofs.Common.{rules, tests, ◌≡◌, ◌≤◌, sym, refl, ◌∙◌}
use Rattle.std.proofs.lemmas.Iterator.Consumers.{YieldsList-from_first}
use Rattle.std.proofs.lemmas.Iterator.Search.{all_from_yields_List}
use Rattle.std.specs.List.{list_all}
use Rattle.pages.specs.Pages.{page, pages_meant}
use Rattle.pages.proofs.Counts.{unfit, counted}
use Rattle.pages.proofs.measuring.page_count.Goals as goal

pub returns-then-not-all : goal.returns-then-not-all
returns-then-not-all c =
    let ps = pages_meant c.args.pages in
    let r : c.all.result ≡ list_all page.fits ps
    = all_from_yields_List page.fits c.all.new.self _ c.all.result c.all.ensures.ran (YieldsList-from_first (λ x. x) pages_meant ps refl) (λ x b q k. search (rules, tests)) in
    sym (unfit ps (sym r ∙ c.if-not-all.true))

pub returns : goal.returns
returns c =
    let ps = pages_meant c.args.pages in
    let r : c.all.result ≡ list_all page.fits ps
    = all_from_yields_List page.fits c.all.new.self _ c.all.result c.all.ensures.ran (YieldsList-from_first (λ x. x) pages_meant ps refl) (λ x b q k. search (rules, tests)) in
    let low : 1 ≤ c.len-count.result = search (rules, tests) in
    let high : c.len-count.result ≤ 15 = search (rules, tests) in
    sym (counted ps _ (sym r ∙ c.if-not-all.false) c.len-count.ensures low high)
