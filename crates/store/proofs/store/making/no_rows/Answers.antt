use Rattle.std.proofs.Common.{List, [], sym, ◌∙◌, rules, tests, arith}
use Rattle.rows.specs.declared.row.Row.{Row}
use Rattle.rows.specs.Held.{rows_of}
use Rattle.store.proofs.Making.{filled, map_same}
use Rattle.store.proofs.store.making.no_rows.Goals as goal

-- kept: without it the check does not close
pub returns-clause-rows : goal.returns-clause-rows
returns-clause-rows c =
    let none : List Row = [] in
    filled rows_of none _ (λ p x q h. search (rules, tests)) _ _ _ _ _ c.in_ok-rows.ensures.items c.try_resize_with.ensures.items
    (omega (arith, c.in_ok-try_resize_with.ensures.len, c.try_resize_with.new.self.ok.0))
    ∙ sym (map_same none c.args.cells.now)
