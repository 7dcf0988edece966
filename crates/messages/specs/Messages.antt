-- Every message: its type, a length of three octets, its elements.
use Rattle.std.specs.Prelude.{◌≡◌, ℕ, ◌≤◌, Bool, true, false, cond, List, length, Some, None, Ok, Err, Option, Result, ◌==◌, nat_lt, slice_index}
use Rattle.cbsp.specs.declared.message_type.MessageType.{MessageType}
use Rattle.cbsp.specs.declared.message_type.MessageType.TheVariants as type
use Rattle.cbsp.specs.declared.refusal.Refusal.{Refusal}
use Rattle.cbsp.specs.declared.refusal.Refusal.TheVariants.{MessageTooLong, MessageNotWhole}
use Rattle.cbsp.specs.Framing.{announced}
use Rattle.cbsp.specs.Types.{type_code, type_of}
use Rattle.elements.specs.declared.faults.Fault.{Fault}
use Rattle.elements.specs.Octets.{Octets, then, raised}
use Rattle.elements.specs.Whole.{headed, taken}
use Rattle.requests.specs.Requests.{RequestV, request_meant, read_request, request_type, spell_request, request_fits}
use Rattle.answers.specs.Answers.{AnswerV, answer_meant, read_answer, answer_type, spell_answer, answer_fits, error, ErrorV}
use Rattle.messages.specs.declared.message.Message.{Message}
use Rattle.messages.specs.declared.message.Message.TheVariants as is
use Rattle.messages.specs.declared.message.Unread.{Unread}
use Rattle.messages.specs.declared.message.Unread.TheVariants.{Refused, Faulty}

pub data MessageV : Type 0 where
  request : RequestV → MessageV
  answer : AnswerV → MessageV

abbrev pub message_meant : Message → MessageV
message_meant (is.Request r) = request (request_meant r)
message_meant (is.Answer a) = answer (answer_meant a)

-- how a message is spelt
abbrev pub message_type : MessageV → MessageType
message_type (request r) = request_type r
message_type (answer a) = answer_type a

abbrev pub spell_elements : MessageV → List ℕ
spell_elements (request r) = spell_request r
spell_elements (answer a) = spell_answer a

abbrev pub spell : MessageV → List ℕ
spell m = headed (type_code (message_type m)) (spell_elements m)

-- the values that can be spelt: each element in its range, each number within its octets, and at most 2,048 octets in all
abbrev pub fits : MessageV → Bool
fits (request r) = request_fits r
fits (answer a) = answer_fits a

pub record InRange (m : MessageV) : Type 0 where
  pub fit : fits m ≡ true
  pub octets : Octets (spell m)
  pub short : length (spell m) ≤ 2048

-- whether a type is a request's
abbrev pub asks : Option MessageType → Bool
asks (Some type.WriteReplace) = true
asks (Some type.Kill) = true
asks (Some type.MessageStatusQuery) = true
asks (Some type.Reset) = true
asks (Some type.KeepAlive) = true
asks (Some type.WriteReplaceComplete) = false
asks (Some type.WriteReplaceFailure) = false
asks (Some type.KillComplete) = false
asks (Some type.KillFailure) = false
asks (Some type.LoadQuery) = false
asks (Some type.LoadQueryComplete) = false
asks (Some type.LoadQueryFailure) = false
asks (Some type.MessageStatusQueryComplete) = false
asks (Some type.MessageStatusQueryFailure) = false
asks (Some type.SetDrx) = false
asks (Some type.SetDrxComplete) = false
asks (Some type.SetDrxFailure) = false
asks (Some type.ResetComplete) = false
asks (Some type.ResetFailure) = false
asks (Some type.Restart) = false
asks (Some type.Failure) = false
asks (Some type.ErrorIndication) = false
asks (Some type.KeepAliveComplete) = false
asks None = false

-- what a framed message is
abbrev pub read_framed : List ℕ → Result MessageV Fault
read_framed os = cond (asks (type_of (slice_index os 0))) (taken request (read_request os)) (taken answer (read_answer os))

-- whether octets are one whole message, by their number and the header alone
abbrev pub whole_message : List ℕ → Result (Unit {0}) Refusal
whole_message os =
    cond (nat_lt 2048 (length os)) (Err MessageTooLong)
    (cond (nat_lt (length os) 4) (Err MessageNotWhole) (cond (announced os == length os) (Ok tt) (Err MessageNotWhole)))

abbrev pub read_message : List ℕ → Result MessageV Unread
read_message os = then (raised Refused (whole_message os)) (λ _. raised Faulty (read_framed os))

-- octets that are accepted are the spelling of what was read, which is in range; and what is in range is read from its
-- spelling, so that it has one spelling
abbrev pub RoundTrip : Type 0
RoundTrip =
    ((os : List ℕ) (m : MessageV) → Octets os → read_message os ≡ Ok m → (os ≡ spell m) × InRange m) × ((m : MessageV) → InRange m → read_message (spell m) ≡ Ok m)

-- the ERROR INDICATION for a fault: its cause alone
abbrev pub error_for : Fault → ErrorV
error_for f = record { cause = f.cause; identifier = None; new_serial = None; old_serial = None; channel = None }

abbrev pub spell_error : Fault → List ℕ
spell_error f = spell (answer (error (error_for f)))
