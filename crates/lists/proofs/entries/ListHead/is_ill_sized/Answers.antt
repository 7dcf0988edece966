use Rattle.std.proofs.Common.{◌≡◌, ℕ, ◌-◌, ◌<◌, ◌+◌, length, sym, ◌∙◌, ap, arith}
use Rattle.lists.specs.Forms.{form_number}
use Rattle.lists.specs.Sizes.{ill_sized}
use Rattle.lists.proofs.Sizing.{sized_broken, sized_done, sized_left, sized_more, sized_unknown}
use Rattle.lists.proofs.entries.ListHead.is_ill_sized.Goals as goal

pub returns-then-rest-end : goal.returns-then-rest-end
returns-then-rest-end g c =
    let k = g.E.ListEntry.kind in
    sym (sized_done k (form_number c.args.self.form) _ c.args.reader.octets.now _ (k.most - c.loop.counter) c.loop.rest.at c.loop.invariant.0 c.if-rest-end.true)

pub returns-in-None : goal.returns-in-None
returns-in-None g c =
    let k = g.E.ListEntry.kind in
    let m : c.loop.counter < k.most = omega (arith, c.loop-test.true, c.MOST-end.ensures, g.met.E.ListEntry.stated.most_is) in
    let e = rw c.loop.invariant.2 at c.entry_end.ensures in
    sym (sized_unknown k (form_number c.args.self.form) _ c.args.reader.octets.now _ (k.most - c.loop.counter) c.loop.rest.at c.loop.invariant.0 c.if-rest-end.false (omega arith)
    (sym e ∙ c.in-None.is))

pub returns-in-Some : goal.returns-in-Some
returns-in-Some g c =
    let k = g.E.ListEntry.kind in
    let m : c.loop.counter < k.most = omega (arith, c.loop-test.true, c.MOST-end.ensures, g.met.E.ListEntry.stated.most_is) in
    let e = rw c.loop.invariant.2 at c.entry_end.ensures in
    sym (sized_broken k (form_number c.args.self.form) _ c.args.reader.octets.now _ (k.most - c.loop.counter) c.loop.rest.at c.loop.invariant.0 c.if-rest-end.false (omega arith)
    c.in-Some.next (sym e ∙ c.in-Some.is) c.if-next-end.true)

pub loop-preserved : goal.loop-preserved
loop-preserved g c =
    let k = g.E.ListEntry.kind in
    let m : c.loop.counter < k.most = omega (arith, c.loop-test.true, c.MOST-end.ensures, g.met.E.ListEntry.stated.most_is) in
    let e = rw c.loop.invariant.2 at c.entry_end.ensures in
    let h = form_number c.args.self.form in
    let os = c.args.reader.octets.now in
    let n : k.most - c.loop.counter - 1 ≡ k.most - (c.loop.counter + 1) = omega arith in (
      sym (ap (λ (room : ℕ). ill_sized k h (length os) os room c.in-Some.next) n)
          ∙ sized_more k h _ os _ (k.most - c.loop.counter) c.loop.rest.at c.loop.invariant.0 c.if-rest-end.false (omega arith)
          c.in-Some.next (sym e ∙ c.in-Some.is) c.if-next-end.false,
      omega arith,
      c.loop.invariant.2,
    )

pub returns : goal.returns
returns g c =
    let k = g.E.ListEntry.kind in
    let z : k.most - c.loop.counter ≡ 0 = omega (arith, c.loop-test.false, c.MOST-end.ensures, g.met.E.ListEntry.stated.most_is) in
    sized_left k (form_number c.args.self.form) _ c.args.reader.octets.now _ c.loop.rest.at (rw z at c.loop.invariant.0)
