use Rattle.std.proofs.Common.{◌∙◌, rules, tests}
use Rattle.std.proofs.lemmas.Iterator.{YieldsList-from_slice}
use Rattle.std.proofs.lemmas.Iterator.Search.{find_from_yields_List}
use Rattle.rows.specs.Keys.{is_same}
use Rattle.rows.proofs.key.first_of.Goals as goal

-- kept: without it the check does not close
pub returns : goal.returns
returns c =
    let first =
    find_from_yields_List (is_same c.args.key) _ _ _ c.find.ensures.ran (YieldsList-from_slice c.args.rows.now cc)
    (λ x b q k. search (rules, tests)) in
    c.copied.ensures ∙ first
