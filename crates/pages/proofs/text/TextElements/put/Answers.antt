use Rattle.std.proofs.Common.{◌≡◌, [], ◌∷◌, length, refl, arith}
use Rattle.std.proofs.lemmas.Iterator.Consumers.{YieldsList-from_first, count_from_yields_List}
use Rattle.std.specs.List.{flat_map}
use Rattle.elements.proofs.Appending.{writes_then}
use Rattle.elements.specs.Writes.{Writes}
use Rattle.pages.specs.Pages.{page, pages_meant}
use Rattle.pages.proofs.text.TextElements.put.Goals as goal

pub returns : goal.returns
returns c =
    let ps = pages_meant c.args.value.1 in
    let n : c.count.result ≡ length ps = count_from_yields_List c.args.value.1 c.count.result c.count.ensures.ran (YieldsList-from_first (λ x. x) pages_meant ps refl) in
    let w : Writes (19 ∷ length ps ∷ []) c.args.writer.now c.put.new.writer = rw n at c.put.ensures in
    writes_then (19 ∷ length ps ∷ 12 ∷ c.args.value.0 ∷ []) (flat_map page.spell ps) _ _ _ (omega (arith, c.requires.room))
    (writes_then (19 ∷ length ps ∷ []) (12 ∷ c.args.value.0 ∷ []) _ _ _ (omega (arith, c.requires.room)) w c.put-2.ensures) c.put_pages.ensures
