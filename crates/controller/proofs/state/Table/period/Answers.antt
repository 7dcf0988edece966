use Rattle.std.proofs.Common.{◌+◌, arith}
use Rattle.law.proofs.Bounds.{bounded_fit, bounded_served}
use Rattle.law.specs.Bound.{Bounded}
use Rattle.store.specs.Held.{rows_held, texts_held}
use Rattle.controller.proofs.state.Table.period.Goals as goal

pub invariant_of-self : goal.invariant_of-self
invariant_of-self g c =
    let t = c.args.self.now in
    let b : Bounded (t.periods + 1) (rows_held c.serve.new.self) =
    bounded_served g.S.Site.model g.S.Site.steps (texts_held t.store) t.periods (rows_held t.store) (rows_held c.serve.new.self)
    c.start_period.new.self c.serve.new.site c.serve.ensures.served t.bounded
    in
    record { bounded = λ k. omega (arith, b k, c.in-Some.ensures.1) }

pub serve-requires : goal.serve-requires
serve-requires g c =
    let t = c.args.self.now in
    bounded_fit t.periods (rows_held t.store) t.bounded (omega arith)
