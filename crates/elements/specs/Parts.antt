-- The elements of fixed length that messages are made of.
use Rattle.std.specs.Prelude.{ℕ, Option}
use Rattle.cbsp.specs.declared.channel.Channel.{Channel}
use Rattle.cbsp.specs.Channels.{channel_code, channel_of}
use Rattle.elements.specs.declared.broadcast.BroadcastType.{BroadcastType}
use Rattle.elements.specs.declared.category.Category.{Category}
use Rattle.elements.specs.declared.cause.Cause.{Cause}
use Rattle.elements.specs.declared.recovery.Recovery.{Recovery}
use Rattle.elements.specs.Codes.{broadcast_code, broadcast_of, category_code, category_of, cause_code, cause_of, recovery_code, recovery_of}
use Rattle.elements.specs.Codec.{Codec, element, optional, number_body, octet_body, coded_body}

-- any number of two octets
abbrev pub number : ℕ → Codec ℕ
number id = element id (number_body 0 65535)

abbrev pub may_number : ℕ → Codec (Option ℕ)
may_number id = optional id (number_body 0 65535)

abbrev pub identifier : Codec ℕ
identifier = number 14

abbrev pub may_identifier : Codec (Option ℕ)
may_identifier = may_number 14

abbrev pub new_serial : Codec ℕ
new_serial = number 3

abbrev pub may_new_serial : Codec (Option ℕ)
may_new_serial = may_number 3

abbrev pub old_serial : Codec ℕ
old_serial = number 2

abbrev pub may_old_serial : Codec (Option ℕ)
may_old_serial = may_number 2

abbrev pub may_channel : Codec (Option Channel)
may_channel = optional 18 (coded_body channel_code channel_of)

abbrev pub category : Codec Category
category = element 5 (coded_body category_code category_of)

abbrev pub repetition_period : Codec ℕ
repetition_period = element 6 (number_body 1 4095)

abbrev pub broadcasts_requested : Codec ℕ
broadcasts_requested = number 7

abbrev pub number_of_pages : Codec ℕ
number_of_pages = element 19 (octet_body 1 15)

abbrev pub coding_scheme : Codec ℕ
coding_scheme = element 12 (octet_body 0 255)

abbrev pub cause : Codec Cause
cause = element 11 (coded_body cause_code cause_of)

abbrev pub recovery : Codec Recovery
recovery = element 13 (coded_body recovery_code recovery_of)

abbrev pub broadcast_type : Codec BroadcastType
broadcast_type = element 22 (coded_body broadcast_code broadcast_of)

-- the code of a keep-alive time
abbrev pub keep_alive_period : Codec ℕ
keep_alive_period = element 24 (octet_body 1 38)
