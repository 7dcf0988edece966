use Rattle.std.proofs.Common.{◌≡◌, ℕ, List, length, sym, ap, ◌∙◌, subst, lit<, arith}
use Rattle.std.specs.List.{AllByRecursion}
use Rattle.lists.specs.CellLists.{cells_meant}
use Rattle.naming.specs.declared.naming.Naming.{Naming}
use Rattle.naming.specs.Namings.{IsThere, named_by, namings}
use Rattle.naming.proofs.Onces.{sound}
use Rattle.replies.proofs.work.Work.handle_list.Goals as goal

pub handle-requires : goal.handle-requires
handle-requires g c =
    let cs = c.args.cells.now in
    let es = named_by (cells_meant c.args.list) in
    let named : c.as_slice.result.now ≡ namings cs es = c.as_slice.ensures.value ∙ c.name_cells.ensures.namings in
    let there : AllByRecursion (IsThere (length c.args.rows.now)) c.as_slice.result.now =
    subst (λ (ns : List Naming). AllByRecursion (IsThere (length c.args.rows.now)) ns) (sym named)
    (subst (λ (n : ℕ). AllByRecursion (IsThere n) (namings cs es)) (sym c.requires.known) (sound cs es).0) in
    (lit< tt, (there, (omega (arith, c.as_slice.ensures.few, ap length c.clear.ensures))))
