use Rattle.std.proofs.Common.{◌-◌, ◌<◌, arith}
use Rattle.std.proofs.lemmas.Result.{err_from_is_err_and}
use Rattle.lists.specs.Forms.{form_number}
use Rattle.lists.proofs.Steps.{inv-done, inv-fault}
use Rattle.lists.proofs.From.{counted, sofar_more}
use Rattle.lists.proofs.entries.ListHead.count_entries.Goals as goal

pub returns-in_err-_entry : goal.returns-in_err-_entry
returns-in_err-_entry g c =
    let k = g.E.ListEntry.kind in
    let i = c.loop-rest.invariant in
    let p = err_from_is_err_and c.from_residual.result c.from_residual.ensures.1 in
    rw (p.1, p.2)
    (inv-fault k c.args.self.broken (form_number c.args.self.form) _ c.args.reader.octets.now _ i.3.0 (k.most - c.loop-rest.count) c.loop-rest.rest.at _ i.3.2
    (rw i.0 at c.loop-rest-test.true) (omega (arith, c.MOST.ensures, g.met.E.ListEntry.stated.most_is)) (rw i.0 at c.in_err-_entry.ensures.value.0))

pub loop-rest-preserved : goal.loop-rest-preserved
loop-rest-preserved g c =
    let k = g.E.ListEntry.kind in
    let i = c.loop-rest.invariant in
    let r = rw i.0 at c.in_ok-_entry.ensures.value in
    let b = rw i.0 at c.in_ok-_entry.ensures.bound in
    let m : c.loop-rest.count < k.most = omega (arith, c.MOST.ensures, g.met.E.ListEntry.stated.most_is) in (
      r.1,
      b.1,
      omega arith,
      sofar_more k c.args.self.broken (form_number c.args.self.form) _ c.args.reader.octets.now _ _ c.loop-rest.count c.loop-rest.rest.at c.read_entry.new.reader.at _ i.3 (rw i.0 at c.loop-rest-test.true) m r.0,
    )

pub returns : goal.returns
returns g c =
    let k = g.E.ListEntry.kind in
    let i = c.loop-rest.invariant in
    let h = form_number c.args.self.form in
    let os = c.args.reader.octets.now in
    counted k c.args.self.broken h _ os k.most c.args.reader.at c.loop-rest.count i.3.0 i.3.1
    (inv-done k c.args.self.broken h _ os _ i.3.0 (k.most - c.loop-rest.count) c.loop-rest.rest.at i.3.2 (rw i.0 at c.loop-rest-test.false))
