-- The answers and indications of the controller: what they hold, and their elements in order.
use Rattle.std.specs.Prelude.{◌≡◌, ℕ, ◌≤◌, Bool, true, List, ◌++◌, length, take, Some, None, Ok, Err, Option, Result, slice_index}
use Rattle.cbsp.specs.declared.channel.Channel.{Channel}
use Rattle.cbsp.specs.declared.message_type.MessageType.{MessageType}
use Rattle.cbsp.specs.declared.message_type.MessageType.TheVariants as type
use Rattle.cbsp.specs.Types.{type_code, type_of}
use Rattle.elements.specs.declared.broadcast.BroadcastType.{BroadcastType}
use Rattle.elements.specs.declared.cause.Cause.{Cause}
use Rattle.elements.specs.declared.recovery.Recovery.{Recovery}
use Rattle.elements.specs.declared.faults.Fault.{Fault}
use Rattle.elements.specs.Faults.{unrecognised}
use Rattle.elements.specs.Octets.{Octets, mapped}
use Rattle.elements.specs.Codec.{Codec, nothing, seq, via, channel}
use Rattle.elements.specs.Parts.{identifier, may_identifier, new_serial, may_new_serial, old_serial, may_old_serial, may_channel, cause, recovery, broadcast_type}
use Rattle.elements.specs.Whole.{read_whole, headed, taken}
use Rattle.lists.specs.CellLists.{CellsV, cells_meant}
use Rattle.lists.specs.Entries.{Entry}
use Rattle.lists.specs.Kinds.{completed_kind, completed_meant, failed_kind, failed_meant}
use Rattle.lists.specs.Listed.{listed}
use Rattle.lists.specs.Parts.{cells, may_cells, completed, may_completed, failures}
use Rattle.answers.specs.declared.answer.Done.{Done}
use Rattle.answers.specs.declared.answer.WriteReplaceComplete.{WriteReplaceComplete}
use Rattle.answers.specs.declared.answer.WriteReplaceFailure.{WriteReplaceFailure}
use Rattle.answers.specs.declared.answer.KillComplete.{KillComplete}
use Rattle.answers.specs.declared.answer.KillFailure.{KillFailure}
use Rattle.answers.specs.declared.answer.StatusComplete.{StatusComplete}
use Rattle.answers.specs.declared.answer.StatusFailure.{StatusFailure}
use Rattle.answers.specs.declared.answer.ResetFailure.{ResetFailure}
use Rattle.answers.specs.declared.answer.Restart.{Restart}
use Rattle.answers.specs.declared.answer.Failure.{Failure}
use Rattle.answers.specs.declared.answer.ErrorIndication.{ErrorIndication}
use Rattle.answers.specs.declared.answer.ResetComplete.{ResetComplete}
use Rattle.answers.specs.declared.answer.Answer.{Answer}
use Rattle.answers.specs.declared.answer.Answer.TheVariants as is

-- what was done: Number of Broadcasts Completed List, Cell List, Channel Indicator, each where there is one
pub record DoneV : Type 0 where
  pub completed : Option (List Entry)
  pub cells : Option CellsV
  pub channel : Option Channel

abbrev pub DoneElements : Type 0
DoneElements = Option (List Entry) × (Option CellsV × (Option Channel))

abbrev pub done_elements : Codec DoneElements
done_elements = seq may_completed (seq may_cells may_channel)

abbrev pub done_to : DoneElements → DoneV
done_to v = record { completed = v.0; cells = v.1.0; channel = v.1.1 }

abbrev pub done_from : DoneV → DoneElements
done_from v = (v.completed, (v.cells, v.channel))

abbrev pub doing : Codec DoneV
doing = via done_to done_from done_elements

-- WRITE-REPLACE COMPLETE: Message Identifier, New Serial Number, Old Serial Number if one was replaced, what was done
pub record WriteCompleteV : Type 0 where
  pub identifier : ℕ
  pub new_serial : ℕ
  pub old_serial : Option ℕ
  pub done : DoneV

abbrev pub WriteCompleteElements : Type 0
WriteCompleteElements = ℕ × (ℕ × (Option ℕ × DoneV))

abbrev pub write_complete_elements : Codec WriteCompleteElements
write_complete_elements = seq identifier (seq new_serial (seq may_old_serial doing))

abbrev pub write_complete_to : WriteCompleteElements → WriteCompleteV
write_complete_to v = record { identifier = v.0; new_serial = v.1.0; old_serial = v.1.1.0; done = v.1.1.1 }

abbrev pub write_complete_from : WriteCompleteV → WriteCompleteElements
write_complete_from v = (v.identifier, (v.new_serial, (v.old_serial, v.done)))

abbrev pub write_completing : Codec WriteCompleteV
write_completing = via write_complete_to write_complete_from write_complete_elements

-- WRITE-REPLACE FAILURE: the same with a Failure List before what was done
pub record WriteFailureV : Type 0 where
  pub identifier : ℕ
  pub new_serial : ℕ
  pub old_serial : Option ℕ
  pub failures : List Entry
  pub done : DoneV

abbrev pub WriteFailureElements : Type 0
WriteFailureElements = ℕ × (ℕ × (Option ℕ × (List Entry × DoneV)))

abbrev pub write_failure_elements : Codec WriteFailureElements
write_failure_elements = seq identifier (seq new_serial (seq may_old_serial (seq failures doing)))

abbrev pub write_failure_to : WriteFailureElements → WriteFailureV
write_failure_to v = record { identifier = v.0; new_serial = v.1.0; old_serial = v.1.1.0; failures = v.1.1.1.0; done = v.1.1.1.1 }

abbrev pub write_failure_from : WriteFailureV → WriteFailureElements
write_failure_from v = (v.identifier, (v.new_serial, (v.old_serial, (v.failures, v.done))))

abbrev pub write_failing : Codec WriteFailureV
write_failing = via write_failure_to write_failure_from write_failure_elements

-- KILL COMPLETE: Message Identifier, Old Serial Number, what was done
pub record KillCompleteV : Type 0 where
  pub identifier : ℕ
  pub serial : ℕ
  pub done : DoneV

abbrev pub KillCompleteElements : Type 0
KillCompleteElements = ℕ × (ℕ × DoneV)

abbrev pub kill_complete_elements : Codec KillCompleteElements
kill_complete_elements = seq identifier (seq old_serial doing)

abbrev pub kill_complete_to : KillCompleteElements → KillCompleteV
kill_complete_to v = record { identifier = v.0; serial = v.1.0; done = v.1.1 }

abbrev pub kill_complete_from : KillCompleteV → KillCompleteElements
kill_complete_from v = (v.identifier, (v.serial, v.done))

abbrev pub kill_completing : Codec KillCompleteV
kill_completing = via kill_complete_to kill_complete_from kill_complete_elements

-- KILL FAILURE: the same with a Failure List before what was done
pub record KillFailureV : Type 0 where
  pub identifier : ℕ
  pub serial : ℕ
  pub failures : List Entry
  pub done : DoneV

abbrev pub KillFailureElements : Type 0
KillFailureElements = ℕ × (ℕ × (List Entry × DoneV))

abbrev pub kill_failure_elements : Codec KillFailureElements
kill_failure_elements = seq identifier (seq old_serial (seq failures doing))

abbrev pub kill_failure_to : KillFailureElements → KillFailureV
kill_failure_to v = record { identifier = v.0; serial = v.1.0; failures = v.1.1.0; done = v.1.1.1 }

abbrev pub kill_failure_from : KillFailureV → KillFailureElements
kill_failure_from v = (v.identifier, (v.serial, (v.failures, v.done)))

abbrev pub kill_failing : Codec KillFailureV
kill_failing = via kill_failure_to kill_failure_from kill_failure_elements

-- MESSAGE STATUS QUERY COMPLETE: Message Identifier, Old Serial Number, Number of Broadcasts Completed List, Channel Indicator
pub record StatusCompleteV : Type 0 where
  pub identifier : ℕ
  pub serial : ℕ
  pub completed : List Entry
  pub channel : Channel

abbrev pub StatusCompleteElements : Type 0
StatusCompleteElements = ℕ × (ℕ × (List Entry × Channel))

abbrev pub status_complete_elements : Codec StatusCompleteElements
status_complete_elements = seq identifier (seq old_serial (seq completed channel))

abbrev pub status_complete_to : StatusCompleteElements → StatusCompleteV
status_complete_to v = record { identifier = v.0; serial = v.1.0; completed = v.1.1.0; channel = v.1.1.1 }

abbrev pub status_complete_from : StatusCompleteV → StatusCompleteElements
status_complete_from v = (v.identifier, (v.serial, (v.completed, v.channel)))

abbrev pub status_completing : Codec StatusCompleteV
status_completing = via status_complete_to status_complete_from status_complete_elements

-- MESSAGE STATUS QUERY FAILURE: Message Identifier, Old Serial Number, Failure List, Channel Indicator, and last the Number of Broadcasts Completed List where there is one
pub record StatusFailureV : Type 0 where
  pub identifier : ℕ
  pub serial : ℕ
  pub failures : List Entry
  pub channel : Channel
  pub completed : Option (List Entry)

abbrev pub StatusFailureElements : Type 0
StatusFailureElements = ℕ × (ℕ × (List Entry × (Channel × (Option (List Entry)))))

abbrev pub status_failure_elements : Codec StatusFailureElements
status_failure_elements = seq identifier (seq old_serial (seq failures (seq channel may_completed)))

abbrev pub status_failure_to : StatusFailureElements → StatusFailureV
status_failure_to v = record { identifier = v.0; serial = v.1.0; failures = v.1.1.0; channel = v.1.1.1.0; completed = v.1.1.1.1 }

abbrev pub status_failure_from : StatusFailureV → StatusFailureElements
status_failure_from v = (v.identifier, (v.serial, (v.failures, (v.channel, v.completed))))

abbrev pub status_failing : Codec StatusFailureV
status_failing = via status_failure_to status_failure_from status_failure_elements

-- RESET FAILURE: Failure List, Cell List where there is one
pub record ResetFailureV : Type 0 where
  pub failures : List Entry
  pub cells : Option CellsV

abbrev pub ResetFailureElements : Type 0
ResetFailureElements = List Entry × (Option CellsV)

abbrev pub reset_failure_elements : Codec ResetFailureElements
reset_failure_elements = seq failures may_cells

abbrev pub reset_failure_to : ResetFailureElements → ResetFailureV
reset_failure_to v = record { failures = v.0; cells = v.1 }

abbrev pub reset_failure_from : ResetFailureV → ResetFailureElements
reset_failure_from v = (v.failures, v.cells)

abbrev pub reset_failing : Codec ResetFailureV
reset_failing = via reset_failure_to reset_failure_from reset_failure_elements

-- RESTART: Cell List, Broadcast Message Type, Recovery Indication
pub record RestartV : Type 0 where
  pub cells : CellsV
  pub broadcast : BroadcastType
  pub recovery : Recovery

abbrev pub RestartElements : Type 0
RestartElements = CellsV × (BroadcastType × Recovery)

abbrev pub restart_elements : Codec RestartElements
restart_elements = seq cells (seq broadcast_type recovery)

abbrev pub restart_to : RestartElements → RestartV
restart_to v = record { cells = v.0; broadcast = v.1.0; recovery = v.1.1 }

abbrev pub restart_from : RestartV → RestartElements
restart_from v = (v.cells, (v.broadcast, v.recovery))

abbrev pub restarting : Codec RestartV
restarting = via restart_to restart_from restart_elements

-- FAILURE: Failure List, Broadcast Message Type
pub record FailureV : Type 0 where
  pub failures : List Entry
  pub broadcast : BroadcastType

abbrev pub FailureElements : Type 0
FailureElements = List Entry × BroadcastType

abbrev pub failure_elements : Codec FailureElements
failure_elements = seq failures broadcast_type

abbrev pub failure_to : FailureElements → FailureV
failure_to v = record { failures = v.0; broadcast = v.1 }

abbrev pub failure_from : FailureV → FailureElements
failure_from v = (v.failures, v.broadcast)

abbrev pub failing : Codec FailureV
failing = via failure_to failure_from failure_elements

-- ERROR INDICATION: Cause, and where they are given Message Identifier, New Serial Number, Old Serial Number, Channel Indicator
pub record ErrorV : Type 0 where
  pub cause : Cause
  pub identifier : Option ℕ
  pub new_serial : Option ℕ
  pub old_serial : Option ℕ
  pub channel : Option Channel

abbrev pub ErrorElements : Type 0
ErrorElements = Cause × (Option ℕ × (Option ℕ × (Option ℕ × (Option Channel))))

abbrev pub error_elements : Codec ErrorElements
error_elements = seq cause (seq may_identifier (seq may_new_serial (seq may_old_serial may_channel)))

abbrev pub error_to : ErrorElements → ErrorV
error_to v = record { cause = v.0; identifier = v.1.0; new_serial = v.1.1.0; old_serial = v.1.1.1.0; channel = v.1.1.1.1 }

abbrev pub error_from : ErrorV → ErrorElements
error_from v = (v.cause, (v.identifier, (v.new_serial, (v.old_serial, v.channel))))

abbrev pub erring : Codec ErrorV
erring = via error_to error_from error_elements

-- what the program's values mean
abbrev pub done_meant : Done → DoneV
done_meant v = record { completed = mapped (listed completed_kind completed_meant) v.completed; cells = mapped cells_meant v.cells; channel = v.channel }

abbrev pub write_complete_meant : WriteReplaceComplete → WriteCompleteV
write_complete_meant v = record { identifier = v.identifier; new_serial = v.new_serial; old_serial = v.old_serial; done = done_meant v.done }

abbrev pub write_failure_meant : WriteReplaceFailure → WriteFailureV
write_failure_meant v = record { identifier = v.identifier; new_serial = v.new_serial; old_serial = v.old_serial; failures = listed failed_kind failed_meant v.failures; done = done_meant v.done }

abbrev pub kill_complete_meant : KillComplete → KillCompleteV
kill_complete_meant v = record { identifier = v.identifier; serial = v.serial; done = done_meant v.done }

abbrev pub kill_failure_meant : KillFailure → KillFailureV
kill_failure_meant v = record { identifier = v.identifier; serial = v.serial; failures = listed failed_kind failed_meant v.failures; done = done_meant v.done }

abbrev pub status_complete_meant : StatusComplete → StatusCompleteV
status_complete_meant v = record { identifier = v.identifier; serial = v.serial; completed = listed completed_kind completed_meant v.completed; channel = v.channel }

abbrev pub status_failure_meant : StatusFailure → StatusFailureV
status_failure_meant v = record { identifier = v.identifier; serial = v.serial; failures = listed failed_kind failed_meant v.failures; channel = v.channel; completed = mapped (listed completed_kind completed_meant) v.completed }

abbrev pub reset_failure_meant : ResetFailure → ResetFailureV
reset_failure_meant v = record { failures = listed failed_kind failed_meant v.failures; cells = mapped cells_meant v.cells }

abbrev pub restart_meant : Restart → RestartV
restart_meant v = record { cells = cells_meant v.cells; broadcast = v.broadcast; recovery = v.recovery }

abbrev pub failure_meant : Failure → FailureV
failure_meant v = record { failures = listed failed_kind failed_meant v.failures; broadcast = v.broadcast }

abbrev pub error_meant : ErrorIndication → ErrorV
error_meant v = record { cause = v.cause; identifier = v.identifier; new_serial = v.new_serial; old_serial = v.old_serial; channel = v.channel }

abbrev pub reset_complete_meant : ResetComplete → CellsV
reset_complete_meant v = cells_meant v.cells

pub data AnswerV : Type 0 where
  write_complete : WriteCompleteV → AnswerV
  write_failure : WriteFailureV → AnswerV
  kill_complete : KillCompleteV → AnswerV
  kill_failure : KillFailureV → AnswerV
  status_complete : StatusCompleteV → AnswerV
  status_failure : StatusFailureV → AnswerV
  reset_complete : CellsV → AnswerV
  reset_failure : ResetFailureV → AnswerV
  restart : RestartV → AnswerV
  failure : FailureV → AnswerV
  error : ErrorV → AnswerV
  keep_alive_complete : Unit {0} → AnswerV

abbrev pub answer_meant : Answer → AnswerV
answer_meant (is.WriteReplaceComplete v) = write_complete (write_complete_meant v)
answer_meant (is.WriteReplaceFailure v) = write_failure (write_failure_meant v)
answer_meant (is.KillComplete v) = kill_complete (kill_complete_meant v)
answer_meant (is.KillFailure v) = kill_failure (kill_failure_meant v)
answer_meant (is.MessageStatusQueryComplete v) = status_complete (status_complete_meant v)
answer_meant (is.MessageStatusQueryFailure v) = status_failure (status_failure_meant v)
answer_meant (is.ResetComplete v) = reset_complete (reset_complete_meant v)
answer_meant (is.ResetFailure v) = reset_failure (reset_failure_meant v)
answer_meant (is.Restart v) = restart (restart_meant v)
answer_meant (is.Failure v) = failure (failure_meant v)
answer_meant (is.ErrorIndication v) = error (error_meant v)
answer_meant is.KeepAliveComplete = keep_alive_complete tt

-- an answer of a type, read; another type is not recognised
abbrev pub read_answer_of : Option MessageType → List ℕ → Result AnswerV Fault
read_answer_of (Some type.WriteReplaceComplete) os = taken write_complete (read_whole write_completing os)
read_answer_of (Some type.WriteReplaceFailure) os = taken write_failure (read_whole write_failing os)
read_answer_of (Some type.KillComplete) os = taken kill_complete (read_whole kill_completing os)
read_answer_of (Some type.KillFailure) os = taken kill_failure (read_whole kill_failing os)
read_answer_of (Some type.MessageStatusQueryComplete) os = taken status_complete (read_whole status_completing os)
read_answer_of (Some type.MessageStatusQueryFailure) os = taken status_failure (read_whole status_failing os)
read_answer_of (Some type.ResetComplete) os = taken reset_complete (read_whole cells os)
read_answer_of (Some type.ResetFailure) os = taken reset_failure (read_whole reset_failing os)
read_answer_of (Some type.Restart) os = taken restart (read_whole restarting os)
read_answer_of (Some type.Failure) os = taken failure (read_whole failing os)
read_answer_of (Some type.ErrorIndication) os = taken error (read_whole erring os)
read_answer_of (Some type.KeepAliveComplete) os = taken keep_alive_complete (read_whole nothing os)
read_answer_of (Some type.WriteReplace) os = Err unrecognised
read_answer_of (Some type.Kill) os = Err unrecognised
read_answer_of (Some type.LoadQuery) os = Err unrecognised
read_answer_of (Some type.LoadQueryComplete) os = Err unrecognised
read_answer_of (Some type.LoadQueryFailure) os = Err unrecognised
read_answer_of (Some type.MessageStatusQuery) os = Err unrecognised
read_answer_of (Some type.SetDrx) os = Err unrecognised
read_answer_of (Some type.SetDrxComplete) os = Err unrecognised
read_answer_of (Some type.SetDrxFailure) os = Err unrecognised
read_answer_of (Some type.Reset) os = Err unrecognised
read_answer_of (Some type.KeepAlive) os = Err unrecognised
read_answer_of None os = Err unrecognised

abbrev pub read_answer : List ℕ → Result AnswerV Fault
read_answer os = read_answer_of (type_of (slice_index os 0)) os

-- how an answer is spelt, and which can be
abbrev pub answer_type : AnswerV → MessageType
answer_type (write_complete v) = type.WriteReplaceComplete
answer_type (write_failure v) = type.WriteReplaceFailure
answer_type (kill_complete v) = type.KillComplete
answer_type (kill_failure v) = type.KillFailure
answer_type (status_complete v) = type.MessageStatusQueryComplete
answer_type (status_failure v) = type.MessageStatusQueryFailure
answer_type (reset_complete v) = type.ResetComplete
answer_type (reset_failure v) = type.ResetFailure
answer_type (restart v) = type.Restart
answer_type (failure v) = type.Failure
answer_type (error v) = type.ErrorIndication
answer_type (keep_alive_complete v) = type.KeepAliveComplete

abbrev pub spell_answer : AnswerV → List ℕ
spell_answer (write_complete v) = write_completing.spell v
spell_answer (write_failure v) = write_failing.spell v
spell_answer (kill_complete v) = kill_completing.spell v
spell_answer (kill_failure v) = kill_failing.spell v
spell_answer (status_complete v) = status_completing.spell v
spell_answer (status_failure v) = status_failing.spell v
spell_answer (reset_complete v) = cells.spell v
spell_answer (reset_failure v) = reset_failing.spell v
spell_answer (restart v) = restarting.spell v
spell_answer (failure v) = failing.spell v
spell_answer (error v) = erring.spell v
spell_answer (keep_alive_complete v) = nothing.spell v

abbrev pub answer_fits : AnswerV → Bool
answer_fits (write_complete v) = write_completing.fits v
answer_fits (write_failure v) = write_failing.fits v
answer_fits (kill_complete v) = kill_completing.fits v
answer_fits (kill_failure v) = kill_failing.fits v
answer_fits (status_complete v) = status_completing.fits v
answer_fits (status_failure v) = status_failing.fits v
answer_fits (reset_complete v) = cells.fits v
answer_fits (reset_failure v) = reset_failing.fits v
answer_fits (restart v) = restarting.fits v
answer_fits (failure v) = failing.fits v
answer_fits (error v) = erring.fits v
answer_fits (keep_alive_complete v) = nothing.fits v

-- an answer that is read spells out to its octets after the header, and one that can be is read from its spelling
abbrev pub AnswersRoundTrip : Type 0
AnswersRoundTrip =
    ((os : List ℕ) (m : AnswerV) → Octets os → 4 ≤ length os → read_answer os ≡ Ok m
    → (os ≡ take 4 os ++ spell_answer m) × (answer_fits m ≡ true) × (type_of (slice_index os 0) ≡ Some (answer_type m)))
    × ((m : AnswerV) → answer_fits m ≡ true → read_answer (headed (type_code (answer_type m)) (spell_answer m)) ≡ Ok m)
