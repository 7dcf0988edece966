use Rattle.lists.proofs.Puts.{writes_entry}
use Rattle.lists.proofs.entry.put_entry.Goals as goal

pub returns : goal.returns
returns g c =
    writes_entry g.E.ListEntry.kind (g.E.ListEntry.meant c.args.entry.now) c.identity-cell.result _ _ _ _ _ c.identity-cell.ensures c.form.ensures c.requires
    c.put_form.ensures c.put.ensures c.put_tail.ensures
