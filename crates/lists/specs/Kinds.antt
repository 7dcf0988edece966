-- The three kinds of list.
use Rattle.std.specs.Prelude.{◌≡◌, ℕ, true, false, cond, ◌||◌, [], ◌∷◌, ◌++◌, Some, None, Option, ◌==◌, slice_index, refl}
use Rattle.std.proofs.Common.{arith}
use Rattle.std.proofs.lemmas.Grind.{common_steps}
use Rattle.elements.specs.declared.cause.Cause.{Cause}
use Rattle.elements.specs.declared.cause.Cause.TheVariants as cause
use Rattle.elements.specs.Codes.{cause_code, cause_of}
use Rattle.elements.specs.Octets.{two}
use Rattle.lists.specs.declared.kinds.CellEntry.{CellEntry}
use Rattle.lists.specs.declared.kinds.CompletedEntry.{CompletedEntry}
use Rattle.lists.specs.declared.kinds.FailedEntry.{FailedEntry}
use Rattle.lists.specs.declared.kinds.Info.{Info}
use Rattle.lists.specs.declared.kinds.Info.TheVariants.{Exact, Overflow, Unknown}
use Rattle.lists.specs.Entries.{Entry, Kind, Known, Sound, unflawed}

-- Cell List: nothing after the identity
abbrev pub cell_kind : Kind
cell_kind = record { tail = 0; headed = true; most = 128; forms = λ d. (d == 1) || (d == 2 || d == 5); flaw = λ _. None }

abbrev pub cell_meant : CellEntry → Entry
cell_meant e = record { cell = e.cell; tail = [] }

-- Number of Broadcasts Completed List: two octets of count and one of information
abbrev pub info_code : Info → ℕ
info_code Exact = 0
info_code Overflow = 1
info_code Unknown = 2

abbrev pub info_of : ℕ → Option Info
info_of o = cond (o == 0) (Some Exact) (cond (o == 1) (Some Overflow) (cond (o == 2) (Some Unknown) None))

-- the place of an octet that stands for nothing
abbrev pub unless : {V : Type 0} → ℕ → Option V → Option ℕ
unless i (Some v) = None
unless i None = Some i

abbrev pub completed_kind : Kind
completed_kind = record { tail = 3; headed = true; most = 192; forms = λ d. (d == 1) || (d == 2); flaw = λ os. unless 2 (info_of (slice_index os 2)) }

abbrev pub completed_meant : CompletedEntry → Entry
completed_meant e = record { cell = e.cell; tail = two e.count ++ info_code e.info ∷ [] }

-- Failure List: a cause
abbrev pub failed_kind : Kind
failed_kind = record {
  tail = 1;
  headed = false;
  most = 192;
  forms = λ d. (d == 1) || (d == 2 || (d == 5 || d == 6));
  flaw = λ os. unless 0 (cause_of (slice_index os 0));
}

abbrev pub failed_meant : FailedEntry → Entry
failed_meant e = record { cell = e.cell; tail = cause_code e.cause ∷ [] }

-- every entry of the three kinds is sound
pub cell_sound : (e : CellEntry) → Sound cell_kind (cell_meant e)
cell_sound e = record { width = refl; unbroken = refl }

info_known : (i : Info) → unflawed (unless 2 (info_of (info_code i))) ≡ true
info_known Exact = refl
info_known Overflow = refl
info_known Unknown = refl

pub completed_sound : (e : CompletedEntry) → Sound completed_kind (completed_meant e)
completed_sound e = record { width = refl; unbroken = info_known e.info }

cause_known : (c : Cause) → unflawed (unless 0 (cause_of (cause_code c))) ≡ true
cause_known cause.ParameterNotRecognised = refl
cause_known cause.ParameterValueInvalid = refl
cause_known cause.MessageReferenceNotIdentified = refl
cause_known cause.CellIdentityNotValid = refl
cause_known cause.UnrecognisedMessage = refl
cause_known cause.MissingMandatoryElement = refl
cause_known cause.BscCapacityExceeded = refl
cause_known cause.CellMemoryExceeded = refl
cause_known cause.BscMemoryExceeded = refl
cause_known cause.CellBroadcastNotSupported = refl
cause_known cause.CellBroadcastNotOperational = refl
cause_known cause.IncompatibleDrxParameter = refl
cause_known cause.ExtendedChannelNotSupported = refl
cause_known cause.MessageReferenceAlreadyUsed = refl
cause_known cause.UnspecifiedError = refl
cause_known cause.LaiOrLacNotValid = refl

pub failed_sound : (e : FailedEntry) → Sound failed_kind (failed_meant e)
failed_sound e = record { width = refl; unbroken = cause_known e.cause }

-- in each of the three only discriminators may stand
pub cell_known : Known cell_kind
cell_known o e = grind (arith, common_steps)

pub completed_known : Known completed_kind
completed_known o e = grind (arith, common_steps)

pub failed_known : Known failed_kind
failed_known o e = grind (arith, common_steps)
