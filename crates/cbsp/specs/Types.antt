-- The type octets of messages.
use Rattle.std.specs.Prelude.{ℕ, List, codes, cond, Some, None, Option, ◌==◌}
use Rattle.cbsp.specs.declared.message_type.MessageType.{MessageType}
use Rattle.cbsp.specs.declared.message_type.MessageType.TheVariants.{
  WriteReplace,
  WriteReplaceComplete,
  WriteReplaceFailure,
  Kill,
  KillComplete,
  KillFailure,
  LoadQuery,
  LoadQueryComplete,
  LoadQueryFailure,
  MessageStatusQuery,
  MessageStatusQueryComplete,
  MessageStatusQueryFailure,
  SetDrx,
  SetDrxComplete,
  SetDrxFailure,
  Reset,
  ResetComplete,
  ResetFailure,
  Restart,
  Failure,
  ErrorIndication,
  KeepAlive,
  KeepAliveComplete,
}

abbrev pub type_code : MessageType → ℕ
type_code WriteReplace = 1
type_code WriteReplaceComplete = 2
type_code WriteReplaceFailure = 3
type_code Kill = 4
type_code KillComplete = 5
type_code KillFailure = 6
type_code LoadQuery = 7
type_code LoadQueryComplete = 8
type_code LoadQueryFailure = 9
type_code MessageStatusQuery = 10
type_code MessageStatusQueryComplete = 11
type_code MessageStatusQueryFailure = 12
type_code SetDrx = 13
type_code SetDrxComplete = 14
type_code SetDrxFailure = 15
type_code Reset = 16
type_code ResetComplete = 17
type_code ResetFailure = 18
type_code Restart = 19
type_code Failure = 20
type_code ErrorIndication = 21
type_code KeepAlive = 22
type_code KeepAliveComplete = 23

-- the type that an octet stands for
abbrev pub type_of : ℕ → Option MessageType
type_of o =
    cond (o == 1) (Some WriteReplace) (
    cond (o == 2) (Some WriteReplaceComplete) (
    cond (o == 3) (Some WriteReplaceFailure) (
    cond (o == 4) (Some Kill) (
    cond (o == 5) (Some KillComplete) (
    cond (o == 6) (Some KillFailure) (
    cond (o == 7) (Some LoadQuery) (
    cond (o == 8) (Some LoadQueryComplete) (
    cond (o == 9) (Some LoadQueryFailure) (
    cond (o == 10) (Some MessageStatusQuery) (
    cond (o == 11) (Some MessageStatusQueryComplete) (
    cond (o == 12) (Some MessageStatusQueryFailure) (
    cond (o == 13) (Some SetDrx) (
    cond (o == 14) (Some SetDrxComplete) (
    cond (o == 15) (Some SetDrxFailure) (
    cond (o == 16) (Some Reset) (
    cond (o == 17) (Some ResetComplete) (
    cond (o == 18) (Some ResetFailure) (
    cond (o == 19) (Some Restart) (
    cond (o == 20) (Some Failure) (
    cond (o == 21) (Some ErrorIndication) (
    cond (o == 22) (Some KeepAlive) (
    cond (o == 23) (Some KeepAliveComplete) None))))))))))))))))))))))

-- their names in the standard
abbrev pub type_name : MessageType → List ℕ
type_name WriteReplace = codes "WRITE-REPLACE"
type_name WriteReplaceComplete = codes "WRITE-REPLACE COMPLETE"
type_name WriteReplaceFailure = codes "WRITE-REPLACE FAILURE"
type_name Kill = codes "KILL"
type_name KillComplete = codes "KILL COMPLETE"
type_name KillFailure = codes "KILL FAILURE"
type_name LoadQuery = codes "LOAD QUERY"
type_name LoadQueryComplete = codes "LOAD QUERY COMPLETE"
type_name LoadQueryFailure = codes "LOAD QUERY FAILURE"
type_name MessageStatusQuery = codes "MESSAGE STATUS QUERY"
type_name MessageStatusQueryComplete = codes "MESSAGE STATUS QUERY COMPLETE"
type_name MessageStatusQueryFailure = codes "MESSAGE STATUS QUERY FAILURE"
type_name SetDrx = codes "SET-DRX"
type_name SetDrxComplete = codes "SET-DRX COMPLETE"
type_name SetDrxFailure = codes "SET-DRX FAILURE"
type_name Reset = codes "RESET"
type_name ResetComplete = codes "RESET COMPLETE"
type_name ResetFailure = codes "RESET FAILURE"
type_name Restart = codes "RESTART"
type_name Failure = codes "FAILURE"
type_name ErrorIndication = codes "ERROR INDICATION"
type_name KeepAlive = codes "KEEP-ALIVE"
type_name KeepAliveComplete = codes "KEEP-ALIVE COMPLETE"
