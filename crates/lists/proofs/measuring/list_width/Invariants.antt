use Rattle.lists.specs.Forms.{form_code}
use Rattle.lists.specs.Listed.{listed}
use Rattle.lists.proofs.Widths.{Measured}
use Rattle.lists.proofs.measuring.list_width.Given as goal

abbrev pub invariant-loop-entry : goal.invariant-loop-entry
invariant-loop-entry g l =
    let k = g.E.ListEntry.kind in
    let m = g.E.ListEntry.meant in
    (goal.iterator-loop-entry g).can_next l.entry-iterator
    × (goal.iterator-loop-entry g).is_finite l.entry-iterator
    × Measured k (form_code l.form) (listed k m l.fn.entries) (listed k m l.entry-iterator) l.room l.total
