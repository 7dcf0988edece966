use Rattle.std.proofs.Common.{ℕ, ◌+◌, true, sym, ◌∙◌, subst, arith}
use Rattle.naming.specs.Namings.{Stage}
use Rattle.naming.specs.Walks.{stage_of}
use Rattle.naming.proofs.Clearing.{at_most_noted}
use Rattle.naming.proofs.Stepping.{Walked, walk_skip, walk_take}
use Rattle.naming.proofs.walk.Walk.note_found.Goals as goal
use Rattle.naming.proofs.walk.Walk.note_found.Goals.{then-is_meant+else-names_only_first, else-is_meant}

pub loop-k-preserved : goal.loop-k-preserved
loop-k-preserved c =
    let e = c.args.identity in
    let cs = c.args.cells.now in
    let s : Stage = stage_of c.loop-k.self in
    let start : Stage = stage_of c.args.self.now in
    let inv = c.loop-k.invariant in
    elim c.if-is_meant.branch [
      | then-is_meant+else-names_only_first w ↦
          let more =
          walk_take e cs c.loop-k.k _ c.loop-k.found s start c.loop-k.self.next c.args.self.now.next c.loop-k-test.true (sym w.if-is_meant.ensures)
          (sym w.if-names_only_first.ensures) inv.walked in
          let same = at_most_noted s (stage_of w.note.new.self) c.loop-k.k w.note.ensures.noted in
          simp (w.self-is, w.found-is) record {
            walked =
                subst (λ (n : ℕ). Walked e cs (c.loop-k.k + 1) true (stage_of w.note.new.self) start n c.args.self.now.next) (sym w.note.ensures.next)
                (subst (λ (t : Stage). Walked e cs (c.loop-k.k + 1) true t start c.loop-k.self.next c.args.self.now.next) (sym w.note.ensures.noted) more);
            room = omega (arith, same, inv.room);
            same = (w.note.ensures.same.0 ∙ inv.same.0, w.note.ensures.same.1 ∙ inv.same.1);
          }
      | else-is_meant w ↦
          let more = walk_skip e cs c.loop-k.k _ c.loop-k.found s start c.loop-k.self.next c.args.self.now.next c.loop-k-test.true (sym w.if-is_meant.ensures) inv.walked in
          simp (w.self-is, w.found-is) record { walked = more; room = inv.room; same = inv.same }
    ]
