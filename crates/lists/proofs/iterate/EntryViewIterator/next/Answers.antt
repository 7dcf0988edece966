use Rattle.std.proofs.Common.{length, arith, refl}
use Rattle.lists.proofs.From.{from_none, from_done, from_fault, from_more}
use Rattle.lists.proofs.iterate.EntryViewIterator.next.Goals as goal
use Rattle.lists.proofs.iterate.EntryViewIterator.next.Goals.{then-self-eq0-via-then-self-eq0, then-self-eq0-via-else-self-eq0+then-self}

pub returns-then-self-eq0-clause-steps : goal.returns-then-self-eq0-clause-steps
returns-then-self-eq0-clause-steps g c =
    let v = c.args.self.now in
    elim c.then-self-eq0.branch [
      | then-self-eq0-via-then-self-eq0 w ↦
          let e = from_none g.E.ListEntry.kind v.head.broken _ (length v.reader.octets.now) v.reader.octets.now v.left v.reader.at w.if-self-eq0.true in
          ((e, e), refl)
      | then-self-eq0-via-else-self-eq0+then-self w ↦
          let e = from_done g.E.ListEntry.kind v.head.broken _ (length v.reader.octets.now) v.reader.octets.now v.left v.reader.at w.if-self.true in
          ((e, e), refl)
    ]

pub returns-in_default-clause-steps : goal.returns-in_default-clause-steps
returns-in_default-clause-steps g c =
    let v = c.args.self.now in
    let e = from_fault g.E.ListEntry.kind v.head.broken _ (length v.reader.octets.now) v.reader.octets.now v.left v.reader.at _ c.in_default.ensures.value.0 c.if-self.false in
    ((e, e), refl)

pub returns-clause-steps : goal.returns-clause-steps
returns-clause-steps g c =
    let v = c.args.self.now in
    let r = c.in-Ok.ensures.value in
    let e = from_more g.E.ListEntry.kind v.head.broken _ (length v.reader.octets.now) v.reader.octets.now v.left v.reader.at _ _ (omega arith) c.if-self.false r.0 in
    (rw r.1 e, omega arith)
