-- The cells of a table are a checked list, and every reply over them can be spelt.
use Rattle.std.proofs.Common.{[], ◌∷◌, map, arith}
use Rattle.answers.specs.Answers.{error, keep_alive_complete}
use Rattle.answering.specs.Fitting.{Spelt}
use Rattle.answering.specs.Replies.{entry_of, restart_for}
use Rattle.cells.proofs.Identities.{apart}
use Rattle.elements.specs.declared.recovery.Recovery.{Recovery}
use Rattle.cells.specs.declared.cell.Cell.{Cell}
use Rattle.elements.specs.declared.faults.Fault.{Fault}
use Rattle.messages.specs.Messages.{error_for}
use Rattle.store.specs.declared.store.Store.{Store}
use Rattle.store.specs.Held.{cells_held}
use Rattle.store.proofs.Answered.{fits}
use Rattle.law.specs.Runs.{Checked}

pub checked : (s : Store) → Checked (cells_held s)
checked s = record { some = s.cells.some; few = s.few; apart = apart _ s.cells.distinct }

pub restart_spelt : (s : Store) (r : Recovery) → Spelt (restart_for (map entry_of (cells_held s)) r)
restart_spelt s r = fits.restart (cells_held s) r (checked s).some (checked s).few

pub one_restart_spelt : (c : Cell) (r : Recovery) → Spelt (restart_for (entry_of c ∷ []) r)
one_restart_spelt c r = fits.restart (c ∷ []) r (omega arith) (omega arith)

pub fault_spelt : (f : Fault) → Spelt (error (error_for f))
fault_spelt f = fits.fault f

pub alive_spelt : Spelt (keep_alive_complete tt)
alive_spelt = fits.alive
