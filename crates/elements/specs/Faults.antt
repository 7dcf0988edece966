-- What a fault of an entry is to its element, and a fault of an element to its message.
use Rattle.std.specs.Prelude.{ℕ}
use Rattle.elements.specs.declared.cause.Cause.TheVariants.{ParameterNotRecognised, ParameterValueInvalid, MissingMandatoryElement, UnrecognisedMessage}
use Rattle.elements.specs.declared.faults.EntryFault.{EntryFault}
use Rattle.elements.specs.declared.faults.ElementFault.{ElementFault}
use Rattle.elements.specs.declared.faults.ElementFault.TheVariants.{Unknown, RunsPast, OutOfRange}
use Rattle.elements.specs.declared.faults.Layer.{Layer}
use Rattle.elements.specs.declared.faults.Layer.TheVariants as layer
use Rattle.elements.specs.declared.faults.Fault.{Fault}

abbrev pub layer_number : Layer → ℕ
layer_number layer.Type = 1
layer_number layer.Elements = 2
layer_number layer.Values = 3

abbrev pub out_of_range : EntryFault → ElementFault
out_of_range e = OutOfRange e.place

abbrev pub to_message : ElementFault → Fault
to_message (Unknown p) = record { cause = ParameterNotRecognised; layer = layer.Elements; place = p }
to_message (RunsPast p) = record { cause = ParameterValueInvalid; layer = layer.Elements; place = p }
to_message (OutOfRange p) = record { cause = ParameterValueInvalid; layer = layer.Values; place = p }

-- a mandatory element is missing there
abbrev pub missing : ℕ → Fault
missing p = record { cause = MissingMandatoryElement; layer = layer.Elements; place = p }

-- the type octet is none that is taken
abbrev pub unrecognised : Fault
unrecognised = record { cause = UnrecognisedMessage; layer = layer.Type; place = 0 }
