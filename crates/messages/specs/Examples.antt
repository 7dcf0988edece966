-- Worked examples, over the definitions that the calls' contracts use. Octets are hexadecimal.
use Rattle.std.specs.Prelude.{◌≡◌, ℕ, true, false, [], ◌∷◌, Some, None, Ok, Err}
use Rattle.cbsp.specs.declared.channel.Channel.TheVariants.{Basic}
use Rattle.cbsp.specs.KeepAlive.{seconds_of}
use Rattle.elements.specs.declared.broadcast.BroadcastType.TheVariants.{Ordinary}
use Rattle.elements.specs.declared.cause.Cause.TheVariants.{ParameterNotRecognised, ParameterValueInvalid, MissingMandatoryElement}
use Rattle.elements.specs.declared.faults.Fault.{Fault}
use Rattle.elements.specs.declared.faults.Layer.TheVariants as layer
use Rattle.elements.specs.declared.recovery.Recovery.TheVariants.{Available}
use Rattle.elements.specs.Faults.{unrecognised}
use Rattle.cbsp.specs.Serials.{same_code}
use Rattle.lists.specs.declared.cell.CellIdentity.{CellIdentity}
use Rattle.lists.specs.declared.cell.CellIdentity.TheVariants.{LacCi, Ci}
use Rattle.lists.specs.Entries.{Entry}
use Rattle.lists.specs.CellLists.{CellsV, all, named}
use Rattle.cbsp.specs.PageParameter.{page_parameter}
use Rattle.requests.specs.Requests.{ReferenceV, kill, reset, keep_alive, read_request}
use Rattle.answers.specs.Answers.{kill_failure, reset_complete, restart, keep_alive_complete}
use Rattle.messages.specs.declared.message.Unread.TheVariants.{Faulty}
use Rattle.messages.specs.Messages.{request, answer, read_message, spell, spell_error}

-- the cell of a location area code and a cell identity, with nothing after it
abbrev cell_of : CellIdentity → Entry
cell_of c = record { cell = c; tail = [] }

-- the two cells of the location area 0101
abbrev both_cells : CellsV
both_cells = named (cell_of (LacCi 0x101 1) ∷ cell_of (LacCi 0x101 2) ∷ [])

-- a value out of range, a mandatory element that is missing, an element that is not recognised
abbrev bad_value : ℕ → Fault
bad_value p = record { cause = ParameterValueInvalid; layer = layer.Values; place = p }

abbrev runs_past : ℕ → Fault
runs_past p = record { cause = ParameterValueInvalid; layer = layer.Elements; place = p }

abbrev missing_at : ℕ → Fault
missing_at p = record { cause = MissingMandatoryElement; layer = layer.Elements; place = p }

abbrev unknown_at : ℕ → Fault
unknown_at p = record { cause = ParameterNotRecognised; layer = layer.Elements; place = p }

-- a KILL of the message 0032 with serial number 1010 in the cells with identity 1, on the basic channel
abbrev killed : ReferenceV
killed = record { identifier = 0x32; serial = 0x1010; cells = named (cell_of (Ci 1) ∷ []); channel = Basic }

pub record MessagesHold : Type 0 where
  pub keep_alive_read : read_message (0x16 ∷ 0x00 ∷ 0x00 ∷ 0x02 ∷ 0x18 ∷ 0x26 ∷ []) ≡ Ok (request (keep_alive 0x26))
  pub keep_alive_complete_spelt : spell (answer (keep_alive_complete tt)) ≡ 0x17 ∷ 0x00 ∷ 0x00 ∷ 0x00 ∷ []
  pub keep_alive_bad : read_request (0x16 ∷ 0x00 ∷ 0x00 ∷ 0x02 ∷ 0x18 ∷ 0x27 ∷ []) ≡ Err (bad_value 5)
  pub keep_alive_error : spell_error (bad_value 5) ≡ 0x15 ∷ 0x00 ∷ 0x00 ∷ 0x02 ∷ 0x0B ∷ 0x01 ∷ []
  pub kill_read :
      read_message (0x04 ∷ 0x00 ∷ 0x00 ∷ 0x0E ∷ 0x0E ∷ 0x00 ∷ 0x32 ∷ 0x02 ∷ 0x10 ∷ 0x10 ∷ 0x04 ∷ 0x00 ∷ 0x03 ∷ 0x02 ∷ 0x00 ∷ 0x01 ∷ 0x12 ∷ 0x00 ∷ [])
      ≡ Ok (request (kill killed))
  pub kill_failure_spelt :
      spell (answer (kill_failure (record {
        identifier = 0x32;
        serial = 0x1010;
        failures = record { cell = LacCi 0x101 1; tail = 0x02 ∷ [] } ∷ [];
        done = record { completed = None; cells = None; channel = Some Basic };
      })))
      ≡ 0x06 ∷ 0x00 ∷ 0x00 ∷ 0x11 ∷ 0x0E ∷ 0x00 ∷ 0x32 ∷ 0x02 ∷ 0x10 ∷ 0x10 ∷ 0x09 ∷ 0x00 ∷ 0x06 ∷ 0x01 ∷ 0x01 ∷ 0x01 ∷ 0x00 ∷ 0x01 ∷ 0x02 ∷ 0x12 ∷ 0x00 ∷ []
  pub restart_read :
      spell (answer (restart (record { cells = both_cells; broadcast = Ordinary; recovery = Available })))
      ≡ 0x13 ∷ 0x00 ∷ 0x00 ∷ 0x10 ∷ 0x04 ∷ 0x00 ∷ 0x09 ∷ 0x01 ∷ 0x01 ∷ 0x01 ∷ 0x00 ∷ 0x01 ∷ 0x01 ∷ 0x01 ∷ 0x00 ∷ 0x02 ∷ 0x16 ∷ 0x00 ∷ 0x0D ∷ 0x00 ∷ []
  pub reset_read : read_message (0x10 ∷ 0x00 ∷ 0x00 ∷ 0x04 ∷ 0x04 ∷ 0x00 ∷ 0x01 ∷ 0x06 ∷ []) ≡ Ok (request (reset all))
  pub reset_complete_spelt :
      spell (answer (reset_complete both_cells)) ≡ 0x11 ∷ 0x00 ∷ 0x00 ∷ 0x0C ∷ 0x04 ∷ 0x00 ∷ 0x09 ∷ 0x01 ∷ 0x01 ∷ 0x01 ∷ 0x00 ∷ 0x01 ∷ 0x01 ∷ 0x01 ∷ 0x00 ∷ 0x02 ∷ []

-- faults of a RESET: `04 00 00 00` and its kin stand for its Cell List, which begins at octet 4
pub record FaultsHold : Type 0 where
  pub no_request : read_request (0x11 ∷ 0x00 ∷ 0x00 ∷ 0x00 ∷ []) ≡ Err unrecognised
  pub ends : read_request (0x10 ∷ 0x00 ∷ 0x00 ∷ 0x00 ∷ []) ≡ Err (missing_at 4)
  pub other_element : read_request (0x10 ∷ 0x00 ∷ 0x00 ∷ 0x02 ∷ 0x18 ∷ 0x01 ∷ []) ≡ Err (missing_at 4)
  pub no_element : read_request (0x10 ∷ 0x00 ∷ 0x00 ∷ 0x02 ∷ 0x19 ∷ 0x01 ∷ []) ≡ Err (unknown_at 4)
  pub zero_element : read_request (0x10 ∷ 0x00 ∷ 0x00 ∷ 0x02 ∷ 0x00 ∷ 0x01 ∷ []) ≡ Err (unknown_at 4)
  pub list_past : read_request (0x10 ∷ 0x00 ∷ 0x00 ∷ 0x04 ∷ 0x04 ∷ 0x00 ∷ 0x02 ∷ 0x06 ∷ []) ≡ Err (runs_past 4)
  pub list_empty : read_request (0x10 ∷ 0x00 ∷ 0x00 ∷ 0x03 ∷ 0x04 ∷ 0x00 ∷ 0x00 ∷ []) ≡ Err (bad_value 5)
  pub spare_bits : read_request (0x10 ∷ 0x00 ∷ 0x00 ∷ 0x04 ∷ 0x04 ∷ 0x00 ∷ 0x01 ∷ 0x16 ∷ []) ≡ Err (bad_value 7)
  pub entry_broken : read_request (0x10 ∷ 0x00 ∷ 0x00 ∷ 0x05 ∷ 0x04 ∷ 0x00 ∷ 0x02 ∷ 0x02 ∷ 0x00 ∷ []) ≡ Err (bad_value 5)
  pub all_with_entries : read_request (0x10 ∷ 0x00 ∷ 0x00 ∷ 0x05 ∷ 0x04 ∷ 0x00 ∷ 0x02 ∷ 0x06 ∷ 0x00 ∷ []) ≡ Err (bad_value 5)
  -- the Failure List of a RESET FAILURE: a cause that is none stands at octet 10; an entry behind it that breaks off is placed before it, at the length
  pub entry_bad : read_message (0x12 ∷ 0x00 ∷ 0x00 ∷ 0x07 ∷ 0x09 ∷ 0x00 ∷ 0x04 ∷ 0x02 ∷ 0x00 ∷ 0x01 ∷ 0x7F ∷ []) ≡ Err (Faulty (bad_value 10))
  pub bad_and_broken :
      read_message (0x12 ∷ 0x00 ∷ 0x00 ∷ 0x09 ∷ 0x09 ∷ 0x00 ∷ 0x06 ∷ 0x02 ∷ 0x00 ∷ 0x01 ∷ 0x7F ∷ 0x02 ∷ 0x00 ∷ []) ≡ Err (Faulty (bad_value 5))
  pub bad_and_unknown :
      read_message (0x12 ∷ 0x00 ∷ 0x00 ∷ 0x09 ∷ 0x09 ∷ 0x00 ∷ 0x06 ∷ 0x02 ∷ 0x00 ∷ 0x01 ∷ 0x7F ∷ 0x03 ∷ 0x00 ∷ []) ≡ Err (Faulty (bad_value 10))
  pub octets_follow : read_request (0x10 ∷ 0x00 ∷ 0x00 ∷ 0x05 ∷ 0x04 ∷ 0x00 ∷ 0x01 ∷ 0x06 ∷ 0x12 ∷ []) ≡ Err (unknown_at 8)
  pub emergency :
      read_request (0x04 ∷ 0x00 ∷ 0x00 ∷ 0x0C ∷ 0x0E ∷ 0x00 ∷ 0x32 ∷ 0x02 ∷ 0x10 ∷ 0x10 ∷ 0x04 ∷ 0x00 ∷ 0x01 ∷ 0x06 ∷ 0x0F ∷ 0x01 ∷ []) ≡ Err (unknown_at 14)
  pub no_channel :
      read_request (0x04 ∷ 0x00 ∷ 0x00 ∷ 0x0A ∷ 0x0E ∷ 0x00 ∷ 0x32 ∷ 0x02 ∷ 0x10 ∷ 0x10 ∷ 0x04 ∷ 0x00 ∷ 0x01 ∷ 0x06 ∷ []) ≡ Err (missing_at 14)

pub record ValuesHold : Type 0 where
  pub twelve_seconds : seconds_of 0x0B ≡ Some 12
  pub thirty_seconds : seconds_of 0x14 ≡ Some 30
  pub thirty_five_seconds : seconds_of 0x15 ≡ Some 35
  pub two_minutes : seconds_of 0x26 ≡ Some 120
  pub same_serial : same_code 0x1013 0x1010 ≡ true
  pub other_serial : same_code 0x1020 0x1010 ≡ false
  pub page_two_of_three : page_parameter 2 3 ≡ 0x23
