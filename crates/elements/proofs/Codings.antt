-- Codes and values belong together.
-- Kept: From and TryFrom say each its own table; that the two belong together is said here, and the library has no lemma of tables.
use Rattle.std.proofs.Common.{◌≡◌, ℕ, cond, eqb, Some, None, Option, sym, refl, ap, ◌∙◌, inl, inr, arith}
use Rattle.std.proofs.lemmas.Bool.{eqb-true}
use Rattle.cbsp.specs.declared.channel.Channel.{Channel}
use Rattle.cbsp.specs.declared.channel.Channel.TheVariants.{Basic, Extended}
use Rattle.cbsp.specs.Channels.{channel_code, channel_of}
use Rattle.elements.specs.declared.broadcast.BroadcastType.{BroadcastType}
use Rattle.elements.specs.declared.broadcast.BroadcastType.TheVariants.{Ordinary, Emergency}
use Rattle.elements.specs.declared.category.Category.{Category}
use Rattle.elements.specs.declared.category.Category.TheVariants.{HighPriority, Background, Normal}
use Rattle.elements.specs.declared.cause.Cause.{Cause}
use Rattle.elements.specs.declared.cause.Cause.TheVariants.{
  ParameterNotRecognised,
  ParameterValueInvalid,
  MessageReferenceNotIdentified,
  CellIdentityNotValid,
  UnrecognisedMessage,
  MissingMandatoryElement,
  BscCapacityExceeded,
  CellMemoryExceeded,
  BscMemoryExceeded,
  CellBroadcastNotSupported,
  CellBroadcastNotOperational,
  IncompatibleDrxParameter,
  ExtendedChannelNotSupported,
  MessageReferenceAlreadyUsed,
  UnspecifiedError,
  LaiOrLacNotValid,
}
use Rattle.elements.specs.declared.recovery.Recovery.{Recovery}
use Rattle.elements.specs.declared.recovery.Recovery.TheVariants.{Available, Lost}
use Rattle.elements.specs.Codes.{broadcast_code, broadcast_of, category_code, category_of, cause_code, cause_of, recovery_code, recovery_of}
use Rattle.elements.specs.Codec.{Lawful, BodyLaws, coded_body, channel}
use Rattle.elements.proofs.Laws.{lawful_by, channel_laws}
use Rattle.elements.proofs.Fixed.{coded_laws}
use Rattle.elements.proofs.Standing.{cond_was}

-- one case of a table of codes
pub step :
    {V : Type 0} (encode : V → ℕ) (x : V) (o i : ℕ) (rest : Option V) (v : V) → encode x ≡ i → cond (eqb o i) (Some x) rest ≡ Some v
    → (rest ≡ Some v → encode v ≡ o) → encode v ≡ o
step encode x o i rest v c e other =
    elim (cond_was (eqb o i) _ _ _ e) [
      | inl p ↦ let q = p.1 in let s : x ≡ v = cc in ap encode (sym s) ∙ c ∙ sym (eqb-true o i p.0)
      | inr p ↦ other p.1
    ]

pub last : {V : Type 0} (encode : V → ℕ) (o : ℕ) (v : V) → None ≡ Some v → encode v ≡ o
last encode o v e = let z : ◌≡◌ {A = ℕ} 0 1 = cc in absurd (omega arith)

pub channel_there : (o : ℕ) (v : Channel) → channel_of o ≡ Some v → channel_code v ≡ o
channel_there o v e =
    step channel_code Basic o 0 _ v refl e (λ e.
    step channel_code Extended o 1 _ v refl e (λ e.
    last channel_code o v e))

pub channel_back : (v : Channel) → channel_of (channel_code v) ≡ Some v
channel_back Basic = refl
channel_back Extended = refl

pub channel_body_laws : BodyLaws (coded_body channel_code channel_of)
channel_body_laws = coded_laws channel_code channel_of channel_there channel_back

pub cause_there : (o : ℕ) (v : Cause) → cause_of o ≡ Some v → cause_code v ≡ o
cause_there o v e =
    step cause_code ParameterNotRecognised o 0 _ v refl e (λ e.
    step cause_code ParameterValueInvalid o 1 _ v refl e (λ e.
    step cause_code MessageReferenceNotIdentified o 2 _ v refl e (λ e.
    step cause_code CellIdentityNotValid o 3 _ v refl e (λ e.
    step cause_code UnrecognisedMessage o 4 _ v refl e (λ e.
    step cause_code MissingMandatoryElement o 5 _ v refl e (λ e.
    step cause_code BscCapacityExceeded o 6 _ v refl e (λ e.
    step cause_code CellMemoryExceeded o 7 _ v refl e (λ e.
    step cause_code BscMemoryExceeded o 8 _ v refl e (λ e.
    step cause_code CellBroadcastNotSupported o 9 _ v refl e (λ e.
    step cause_code CellBroadcastNotOperational o 10 _ v refl e (λ e.
    step cause_code IncompatibleDrxParameter o 11 _ v refl e (λ e.
    step cause_code ExtendedChannelNotSupported o 12 _ v refl e (λ e.
    step cause_code MessageReferenceAlreadyUsed o 13 _ v refl e (λ e.
    step cause_code UnspecifiedError o 14 _ v refl e (λ e.
    step cause_code LaiOrLacNotValid o 15 _ v refl e (λ e.
    last cause_code o v e))))))))))))))))

pub cause_back : (v : Cause) → cause_of (cause_code v) ≡ Some v
cause_back ParameterNotRecognised = refl
cause_back ParameterValueInvalid = refl
cause_back MessageReferenceNotIdentified = refl
cause_back CellIdentityNotValid = refl
cause_back UnrecognisedMessage = refl
cause_back MissingMandatoryElement = refl
cause_back BscCapacityExceeded = refl
cause_back CellMemoryExceeded = refl
cause_back BscMemoryExceeded = refl
cause_back CellBroadcastNotSupported = refl
cause_back CellBroadcastNotOperational = refl
cause_back IncompatibleDrxParameter = refl
cause_back ExtendedChannelNotSupported = refl
cause_back MessageReferenceAlreadyUsed = refl
cause_back UnspecifiedError = refl
cause_back LaiOrLacNotValid = refl

pub cause_laws : BodyLaws (coded_body cause_code cause_of)
cause_laws = coded_laws cause_code cause_of cause_there cause_back

pub category_there : (o : ℕ) (v : Category) → category_of o ≡ Some v → category_code v ≡ o
category_there o v e =
    step category_code HighPriority o 0 _ v refl e (λ e.
    step category_code Background o 1 _ v refl e (λ e.
    step category_code Normal o 2 _ v refl e (λ e.
    last category_code o v e)))

pub category_back : (v : Category) → category_of (category_code v) ≡ Some v
category_back HighPriority = refl
category_back Background = refl
category_back Normal = refl

pub category_laws : BodyLaws (coded_body category_code category_of)
category_laws = coded_laws category_code category_of category_there category_back

pub recovery_there : (o : ℕ) (v : Recovery) → recovery_of o ≡ Some v → recovery_code v ≡ o
recovery_there o v e =
    step recovery_code Available o 0 _ v refl e (λ e.
    step recovery_code Lost o 1 _ v refl e (λ e.
    last recovery_code o v e))

pub recovery_back : (v : Recovery) → recovery_of (recovery_code v) ≡ Some v
recovery_back Available = refl
recovery_back Lost = refl

pub recovery_laws : BodyLaws (coded_body recovery_code recovery_of)
recovery_laws = coded_laws recovery_code recovery_of recovery_there recovery_back

pub broadcast_there : (o : ℕ) (v : BroadcastType) → broadcast_of o ≡ Some v → broadcast_code v ≡ o
broadcast_there o v e =
    step broadcast_code Ordinary o 0 _ v refl e (λ e.
    step broadcast_code Emergency o 1 _ v refl e (λ e.
    last broadcast_code o v e))

pub broadcast_back : (v : BroadcastType) → broadcast_of (broadcast_code v) ≡ Some v
broadcast_back Ordinary = refl
broadcast_back Emergency = refl

pub broadcast_laws : BodyLaws (coded_body broadcast_code broadcast_of)
broadcast_laws = coded_laws broadcast_code broadcast_of broadcast_there broadcast_back

pub channel_lawful : Lawful channel
channel_lawful = lawful_by _ 18 (coded_body channel_code channel_of) channel_laws channel_body_laws
