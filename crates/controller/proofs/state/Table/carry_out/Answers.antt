use Rattle.std.proofs.Common.{arith}
use Rattle.std.proofs.lemmas.Grind.{common_steps}
use Rattle.requests.specs.Requests.{reference_meant, reset_meant, write_meant}
use Rattle.controller.proofs.Bounding.{kill_bounded, query_bounded, reset_bounded, write_bounded}
use Rattle.controller.proofs.state.Table.carry_out.Goals as goal

pub invariant_of-self : goal.invariant_of-self
invariant_of-self g c =
    record { bounded = write_bounded c.args.self.now.store c.write.new.self (g.S.Site.model c.args.site.now).opened _ c.args.self.now.bounded (write_meant c.in-WriteReplace.request) c.write.ensures.rows }

pub invariant_of-self-in-Kill : goal.invariant_of-self-in-Kill
invariant_of-self-in-Kill g c =
    record { bounded = kill_bounded c.args.self.now.store c.kill.new.self (g.S.Site.model c.args.site.now).opened _ c.args.self.now.bounded (reference_meant c.in-Kill.request) c.kill.ensures.rows }

pub invariant_of-self-in-MessageStatusQuery : goal.invariant_of-self-in-MessageStatusQuery
invariant_of-self-in-MessageStatusQuery g c =
    record { bounded = query_bounded c.args.self.now.store c.query.new.self (g.S.Site.model c.args.site.now).opened _ c.args.self.now.bounded (reference_meant c.in-MessageStatusQuery.request) c.query.ensures.rows }

pub invariant_of-self-in-Reset : goal.invariant_of-self-in-Reset
invariant_of-self-in-Reset g c =
    record { bounded = reset_bounded c.args.self.now.store c.reset.new.self (g.S.Site.model c.args.site.now).opened _ c.args.self.now.bounded (reset_meant c.in-Reset.request) c.reset.ensures.rows }

pub returns-in-KeepAlive-clause-reacted : goal.returns-in-KeepAlive-clause-reacted
returns-in-KeepAlive-clause-reacted g c = let e = c.keep_alive.ensures (g.S.Site.model c.args.site.now).opened in grind (arith, common_steps, e, c.in-KeepAlive.is)
