use Rattle.std.proofs.Common.{arith, length-append}
use Rattle.elements.proofs.Appending.{writes_then}
use Rattle.lists.specs.Entries.{spell_entries}
use Rattle.lists.specs.Listed.{listed}
use Rattle.lists.specs.Lists.{head_form, led_by}
use Rattle.lists.proofs.writing.put_listed.Goals as goal

pub returns : goal.returns
returns g c =
    let k = g.E.ListEntry.kind in
    let es = listed k g.E.ListEntry.meant c.args.entries in
    let led = led_by k.headed (head_form es) in
    writes_then led (spell_entries k es) _ _ _ (omega (arith, length-append led (spell_entries k es), c.requires)) (rw c.head_form.ensures at c.put_heading.ensures) c.put_entries.ensures
