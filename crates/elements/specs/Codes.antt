-- The values of elements that have a code for each case.
use Rattle.std.specs.Prelude.{ℕ, List, codes, cond, Some, None, Option, ◌==◌}
use Rattle.elements.specs.declared.broadcast.BroadcastType.{BroadcastType}
use Rattle.elements.specs.declared.broadcast.BroadcastType.TheVariants.{Ordinary, Emergency}
use Rattle.elements.specs.declared.category.Category.{Category}
use Rattle.elements.specs.declared.category.Category.TheVariants.{HighPriority, Background, Normal}
use Rattle.elements.specs.declared.cause.Cause.{Cause}
use Rattle.elements.specs.declared.cause.Cause.TheVariants.{
  ParameterNotRecognised,
  ParameterValueInvalid,
  MessageReferenceNotIdentified,
  CellIdentityNotValid,
  UnrecognisedMessage,
  MissingMandatoryElement,
  BscCapacityExceeded,
  CellMemoryExceeded,
  BscMemoryExceeded,
  CellBroadcastNotSupported,
  CellBroadcastNotOperational,
  IncompatibleDrxParameter,
  ExtendedChannelNotSupported,
  MessageReferenceAlreadyUsed,
  UnspecifiedError,
  LaiOrLacNotValid,
}
use Rattle.elements.specs.declared.recovery.Recovery.{Recovery}
use Rattle.elements.specs.declared.recovery.Recovery.TheVariants.{Available, Lost}

-- causes
abbrev pub cause_code : Cause → ℕ
cause_code ParameterNotRecognised = 0
cause_code ParameterValueInvalid = 1
cause_code MessageReferenceNotIdentified = 2
cause_code CellIdentityNotValid = 3
cause_code UnrecognisedMessage = 4
cause_code MissingMandatoryElement = 5
cause_code BscCapacityExceeded = 6
cause_code CellMemoryExceeded = 7
cause_code BscMemoryExceeded = 8
cause_code CellBroadcastNotSupported = 9
cause_code CellBroadcastNotOperational = 10
cause_code IncompatibleDrxParameter = 11
cause_code ExtendedChannelNotSupported = 12
cause_code MessageReferenceAlreadyUsed = 13
cause_code UnspecifiedError = 14
cause_code LaiOrLacNotValid = 15

abbrev pub cause_of : ℕ → Option Cause
cause_of o =
    cond (o == 0) (Some ParameterNotRecognised) (
    cond (o == 1) (Some ParameterValueInvalid) (
    cond (o == 2) (Some MessageReferenceNotIdentified) (
    cond (o == 3) (Some CellIdentityNotValid) (
    cond (o == 4) (Some UnrecognisedMessage) (
    cond (o == 5) (Some MissingMandatoryElement) (
    cond (o == 6) (Some BscCapacityExceeded) (
    cond (o == 7) (Some CellMemoryExceeded) (
    cond (o == 8) (Some BscMemoryExceeded) (
    cond (o == 9) (Some CellBroadcastNotSupported) (
    cond (o == 10) (Some CellBroadcastNotOperational) (
    cond (o == 11) (Some IncompatibleDrxParameter) (
    cond (o == 12) (Some ExtendedChannelNotSupported) (
    cond (o == 13) (Some MessageReferenceAlreadyUsed) (
    cond (o == 14) (Some UnspecifiedError) (
    cond (o == 15) (Some LaiOrLacNotValid) None)))))))))))))))

-- categories
abbrev pub category_code : Category → ℕ
category_code HighPriority = 0
category_code Background = 1
category_code Normal = 2

abbrev pub category_of : ℕ → Option Category
category_of o =
    cond (o == 0) (Some HighPriority) (
    cond (o == 1) (Some Background) (
    cond (o == 2) (Some Normal) None))

-- recovery indications
abbrev pub recovery_code : Recovery → ℕ
recovery_code Available = 0
recovery_code Lost = 1

abbrev pub recovery_of : ℕ → Option Recovery
recovery_of o =
    cond (o == 0) (Some Available) (
    cond (o == 1) (Some Lost) None)

-- broadcast message types
abbrev pub broadcast_code : BroadcastType → ℕ
broadcast_code Ordinary = 0
broadcast_code Emergency = 1

abbrev pub broadcast_of : ℕ → Option BroadcastType
broadcast_of o =
    cond (o == 0) (Some Ordinary) (
    cond (o == 1) (Some Emergency) None)

-- names of causes in the standard
abbrev pub cause_name : Cause → List ℕ
cause_name ParameterNotRecognised = codes "Parameter-not-recognised"
cause_name ParameterValueInvalid = codes "Parameter-value-invalid"
cause_name MessageReferenceNotIdentified = codes "Message-reference-not-identified"
cause_name CellIdentityNotValid = codes "Cell-identity-not-valid"
cause_name UnrecognisedMessage = codes "Unrecognised-message"
cause_name MissingMandatoryElement = codes "Missing-mandatory-element"
cause_name BscCapacityExceeded = codes "BSC-capacity-exceeded"
cause_name CellMemoryExceeded = codes "Cell-memory-exceeded"
cause_name BscMemoryExceeded = codes "BSC-memory-exceeded"
cause_name CellBroadcastNotSupported = codes "Cell-broadcast-not-supported"
cause_name CellBroadcastNotOperational = codes "Cell-broadcast-not-operational"
cause_name IncompatibleDrxParameter = codes "Incompatible-DRX-parameter"
cause_name ExtendedChannelNotSupported = codes "Extended-channel-not-supported"
cause_name MessageReferenceAlreadyUsed = codes "Message-reference-already-used"
cause_name UnspecifiedError = codes "Unspecified-error"
cause_name LaiOrLacNotValid = codes "LAI-or-LAC-not-valid"

-- of categories
abbrev pub category_name : Category → List ℕ
category_name HighPriority = codes "high priority"
category_name Background = codes "background"
category_name Normal = codes "normal"

-- of recovery indications
abbrev pub recovery_name : Recovery → List ℕ
recovery_name Available = codes "CBS/emergency message data available"
recovery_name Lost = codes "CBS/emergency message data lost"

-- of broadcast message types
abbrev pub broadcast_name : BroadcastType → List ℕ
broadcast_name Ordinary = codes "CBS message broadcasting"
broadcast_name Emergency = codes "emergency message broadcasting"
