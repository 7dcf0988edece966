-- The laws of the elements of fixed length, by name.
use Rattle.std.proofs.Common.{ℕ}
use Rattle.cbsp.specs.Channels.{channel_code, channel_of}
use Rattle.elements.specs.Codes.{broadcast_code, broadcast_of, category_code, category_of, cause_code, cause_of, recovery_code, recovery_of}
use Rattle.elements.specs.Codec.{Lawful, number_body, octet_body, coded_body}
use Rattle.elements.specs.Parts.{number, may_number, may_channel, category, repetition_period, number_of_pages, coding_scheme, cause, recovery, broadcast_type, keep_alive_period}
use Rattle.elements.proofs.Laws.{lawful_element, lawful_optional}
use Rattle.elements.proofs.Fixed.{number_laws, octet_laws}
use Rattle.elements.proofs.Codings.{channel_body_laws, cause_laws, category_laws, recovery_laws, broadcast_laws}

pub number_lawful : (id : ℕ) → Lawful (number id)
number_lawful id = lawful_element id (number_body 0 65535) (number_laws 0 65535)

pub may_number_lawful : (id : ℕ) → Lawful (may_number id)
may_number_lawful id = lawful_optional id (number_body 0 65535) (number_laws 0 65535)

pub may_channel_lawful : Lawful may_channel
may_channel_lawful = lawful_optional 18 (coded_body channel_code channel_of) channel_body_laws

pub category_lawful : Lawful category
category_lawful = lawful_element 5 (coded_body category_code category_of) category_laws

pub period_lawful : Lawful repetition_period
period_lawful = lawful_element 6 (number_body 1 4095) (number_laws 1 4095)

pub pages_lawful : Lawful number_of_pages
pages_lawful = lawful_element 19 (octet_body 1 15) (octet_laws 1 15)

pub coding_lawful : Lawful coding_scheme
coding_lawful = lawful_element 12 (octet_body 0 255) (octet_laws 0 255)

pub cause_lawful : Lawful cause
cause_lawful = lawful_element 11 (coded_body cause_code cause_of) cause_laws

pub recovery_lawful : Lawful recovery
recovery_lawful = lawful_element 13 (coded_body recovery_code recovery_of) recovery_laws

pub broadcast_lawful : Lawful broadcast_type
broadcast_lawful = lawful_element 22 (coded_body broadcast_code broadcast_of) broadcast_laws

pub keep_alive_lawful : Lawful keep_alive_period
keep_alive_lawful = lawful_element 24 (octet_body 1 38) (octet_laws 1 38)
