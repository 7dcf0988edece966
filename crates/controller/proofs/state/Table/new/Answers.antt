use Rattle.std.proofs.Common.{refl}
use Rattle.cells.specs.Held.{cells_of}
use Rattle.controller.proofs.Cells.{checked}
use Rattle.controller.proofs.Fresh.{none_bounded, none_held}
use Rattle.controller.proofs.state.Table.new.Goals as goal

pub invariant_of-result : goal.invariant_of-result
invariant_of-result c = record { bounded = none_bounded _ (cells_of c.args.list.now) c.in_ok-store.ensures.rows }

pub returns-clause-fresh : goal.returns-clause-fresh
returns-clause-fresh c =
    let e = c.in_ok-store.ensures in
    record {
      checked = checked c.in_ok-store.store;
      rows = none_held _ (cells_of c.args.list.now) _ e.rows e.cells;
      openings = refl;
      announced = refl;
      ever = refl;
      periods = refl;
      alive = refl;
    }
