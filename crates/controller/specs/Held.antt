-- What a table holds.
use Rattle.elements.specs.Octets.{mapped}
use Rattle.law.specs.State.{Alive, State}
use Rattle.store.specs.Held.{cells_held, rows_held, texts_held}
use Rattle.controller.specs.declared.state.LastAlive.{LastAlive}
use Rattle.controller.specs.declared.state.Table.{Table}

abbrev pub alive_of : LastAlive → Alive
alive_of a = record { seconds = a.seconds; since = a.since }

abbrev pub state_of : Table → State
state_of t =
    record {
      cells = cells_held t.store;
      rows = rows_held t.store;
      texts = texts_held t.store;
      openings = t.openings;
      announced = t.announced;
      ever = t.ever;
      periods = t.periods;
      alive = mapped alive_of t.alive;
    }
