-- The number by which the host knows a refusal.
use Rattle.std.specs.Prelude.{ℕ, List, codes}
use Rattle.cbsp.specs.declared.refusal.Refusal.{Refusal}
use Rattle.cbsp.specs.declared.refusal.Refusal.TheVariants.{
  ReplySpaceTooSmall,
  WrongMarkCount,
  MessageTooLong,
  MessageNotWhole,
  LinkNotCurrent,
  OpeningsUsedUp,
  PeriodsUsedUp,
  NoSuchCell,
  CellAlreadySo,
  FileLength,
  FileHeading,
  IdentityTwice,
  UnknownCapability,
  FrameMemoryTooSmall,
}

abbrev pub refusal_number : Refusal → ℕ
refusal_number ReplySpaceTooSmall = 1
refusal_number WrongMarkCount = 2
refusal_number MessageTooLong = 3
refusal_number MessageNotWhole = 4
refusal_number LinkNotCurrent = 5
refusal_number OpeningsUsedUp = 6
refusal_number PeriodsUsedUp = 7
refusal_number NoSuchCell = 8
refusal_number CellAlreadySo = 9
refusal_number FileLength = 10
refusal_number FileHeading = 11
refusal_number IdentityTwice = 12
refusal_number UnknownCapability = 13
refusal_number FrameMemoryTooSmall = 14

-- what was wrong, in words
abbrev pub refusal_text : Refusal → List ℕ
refusal_text ReplySpaceTooSmall = codes "the reply space has fewer than 2,048 octets"
refusal_text WrongMarkCount = codes "the marks are not 64 octets"
refusal_text MessageTooLong = codes "the message has more than 2,048 octets"
refusal_text MessageNotWhole = codes "the octets are not one whole message"
refusal_text LinkNotCurrent = codes "the link is stale, or the table is not announced"
refusal_text OpeningsUsedUp = codes "65,535 openings were made"
refusal_text PeriodsUsedUp = codes "4,294,967,295 periods were made"
refusal_text NoSuchCell = codes "there is no such cell"
refusal_text CellAlreadySo = codes "the cell is in that state already"
refusal_text FileLength = codes "the cell file has not the length that its heading gives"
refusal_text FileHeading = codes "the cell file does not begin with 1 to 64 cells and identities of 4 octets"
refusal_text IdentityTwice = codes "the cell file has an identity twice"
refusal_text UnknownCapability = codes "the cell file has a capability other than 0, 1 and 3"
refusal_text FrameMemoryTooSmall = codes "the frame memory has fewer than 21,152 octets"
