-- The replies and indications of the controller, from what came of a request.
use Rattle.std.specs.Prelude.{ℕ, List, [], ◌∷◌, map, Some, None, Option}
use Rattle.answers.specs.Answers.{AnswerV, DoneV, write_complete, write_failure, kill_complete, kill_failure, status_complete, status_failure, reset_complete, reset_failure, restart, failure}
use Rattle.cbsp.specs.declared.channel.Channel.{Channel}
use Rattle.cells.specs.declared.cell.Cell.{Cell}
use Rattle.elements.specs.declared.broadcast.BroadcastType.TheVariants.{Ordinary}
use Rattle.elements.specs.declared.cause.Cause.{Cause}
use Rattle.elements.specs.declared.recovery.Recovery.{Recovery}
use Rattle.elements.specs.Codes.{cause_code}
use Rattle.lists.specs.CellLists.{CellsV, named}
use Rattle.lists.specs.Entries.{Entry}
use Rattle.lists.specs.Kinds.{cell_meant, completed_meant, failed_meant}
use Rattle.lists.specs.declared.cell.CellIdentity.TheVariants.{LacCi}
use Rattle.replies.specs.Lists.{begun_entry, completed_entry, failed_entry, identity_at, picked}
use Rattle.requests.specs.Requests.{ReferenceV, WriteReplaceV}
use Rattle.table.specs.declared.outcome.Outcome.{Outcome}

-- the lists of a reply: cells in which the request did not fail, messages that ended or were asked for, failures
abbrev pub begun_list : List Cell → List Outcome → List Entry
begun_list cells out = map cell_meant (picked (begun_entry cells) out)

abbrev pub completed_list : List Cell → List Outcome → List Entry
completed_list cells out = map completed_meant (picked (completed_entry cells) out)

abbrev pub failed_list : List Cell → List Outcome → List Entry
failed_list cells out = map failed_meant (picked (failed_entry cells) out)

-- a list that is empty is absent
abbrev pub some_list : List Entry → Option (List Entry)
some_list [] = None
some_list (e ∷ es) = Some (e ∷ es)

abbrev pub some_cells : List Entry → Option CellsV
some_cells [] = None
some_cells (e ∷ es) = Some (named (e ∷ es))

abbrev pub done_in : Channel → List Entry → List Entry → DoneV
done_in channel completed begun = record { completed = some_list completed; cells = some_cells begun; channel = Some channel }

-- WRITE-REPLACE: a reply is FAILURE exactly where there is a failure; it repeats the serial numbers that were given
abbrev pub write_reply : WriteReplaceV → List Entry → List Entry → List Entry → AnswerV
write_reply w begun completed [] =
    write_complete (record { identifier = w.identifier; new_serial = w.new_serial; old_serial = w.old_serial; done = done_in w.channel completed begun })
write_reply w begun completed (f ∷ fs) =
    write_failure (record { identifier = w.identifier; new_serial = w.new_serial; old_serial = w.old_serial; failures = f ∷ fs; done = done_in w.channel completed begun })

-- KILL: no Cell List
abbrev pub kill_reply : ReferenceV → List Entry → List Entry → AnswerV
kill_reply r completed [] = kill_complete (record { identifier = r.identifier; serial = r.serial; done = done_in r.channel completed [] })
kill_reply r completed (f ∷ fs) =
    kill_failure (record { identifier = r.identifier; serial = r.serial; failures = f ∷ fs; done = done_in r.channel completed [] })

-- MESSAGE STATUS QUERY
abbrev pub query_reply : ReferenceV → List Entry → List Entry → AnswerV
query_reply r completed [] = status_complete (record { identifier = r.identifier; serial = r.serial; completed = completed; channel = r.channel })
query_reply r completed (f ∷ fs) =
    status_failure (record { identifier = r.identifier; serial = r.serial; failures = f ∷ fs; channel = r.channel; completed = some_list completed })

-- RESET
abbrev pub reset_reply : List Entry → List Entry → AnswerV
reset_reply begun [] = reset_complete (named begun)
reset_reply begun (f ∷ fs) = reset_failure (record { failures = f ∷ fs; cells = some_cells begun })

-- the entry of a cell in a Cell List
abbrev pub entry_of : Cell → Entry
entry_of c = record { cell = LacCi c.identity.lac c.identity.ci; tail = [] }

-- RESTART for some cells, and FAILURE for one that is not operational
abbrev pub restart_for : List Entry → Recovery → AnswerV
restart_for cells recovery = restart (record { cells = named cells; broadcast = Ordinary; recovery = recovery })

abbrev pub failure_of : List Entry → AnswerV
failure_of failed = failure (record { failures = failed; broadcast = Ordinary })

abbrev pub failure_for : List Cell → ℕ → Cause → AnswerV
failure_for cells k cause = failure_of (record { cell = identity_at cells k; tail = cause_code cause ∷ [] } ∷ [])
