-- Worked examples of calls, over the definitions of what a call does. Octets are hexadecimal.
use Rattle.std.specs.Prelude.{◌≡◌, ℕ, Bool, true, false, List, [], ◌∷◌, replicate, Some, None}
use Rattle.cbsp.specs.declared.channel.Channel.TheVariants.{Basic}
use Rattle.cells.specs.declared.cell.Cell.{Cell}
use Rattle.cells.specs.File.{cells_in}
use Rattle.elements.specs.declared.cause.Cause.TheVariants.{ParameterValueInvalid}
use Rattle.elements.specs.declared.faults.Layer.TheVariants as layer
use Rattle.elements.specs.declared.recovery.Recovery.TheVariants.{Available, Lost}
use Rattle.rows.specs.declared.row.Row.{Row}
use Rattle.rows.specs.Texts.{Text, no_text}
use Rattle.law.specs.State.{State, rows_at, with_alive, with_link, with_period, with_rows}
use Rattle.law.specs.Calls.{Call, Reaction, is_overdue, octets_of, reaction}
use Rattle.law.specs.Calls.Call.{opening, announcing, messaging, losing, returning, shutting}

-- the cells of the file `02 04 01 01 00 01 01 01 00 02 01 03`
abbrev pub two_cells : List Cell
two_cells = cells_in (0x02 ∷ 0x04 ∷ 0x01 ∷ 0x01 ∷ 0x00 ∷ 0x01 ∷ 0x01 ∷ 0x01 ∷ 0x00 ∷ 0x02 ∷ 0x01 ∷ 0x03 ∷ [])

-- a table over them with such messages in cell 0, announced on its first link; `ever` says whether it was announced before that
abbrev pub table_with : Bool → List Row → State
table_with ever rows =
    record {
      cells = two_cells;
      rows = rows ∷ [] ∷ [];
      texts = replicate 32 no_text;
      openings = 1;
      announced = ever;
      ever = ever;
      periods = 0;
      alive = None;
    }

-- the message 0032 with serial number 1010 on the basic channel, which went out so often
abbrev pub gone_out : ℕ → Row
gone_out n = record { channel = Basic; identifier = 0x32; serial = 0x1010; period = 1; requested = 0; count = n; wait = 0; slot = 0 }

-- what a call comes to where all cells are open
abbrev pub comes : Call → State → Reaction
comes c t = reaction c t (λ _. true)

abbrev pub message : List ℕ → State → Reaction
message octets t = comes (messaging 1 octets 64 2048) t

-- a KILL of the message 0032 with a serial number that ends so, in the cells with identity 1, on the basic channel
abbrev killing : ℕ → List ℕ
killing serial =
    0x04 ∷ 0x00 ∷ 0x00 ∷ 0x0E ∷ 0x0E ∷ 0x00 ∷ 0x32 ∷ 0x02 ∷ 0x10 ∷ serial ∷ 0x04 ∷ 0x00 ∷ 0x03 ∷ 0x02 ∷ 0x00 ∷ 0x01 ∷ 0x12 ∷ 0x00 ∷ []

-- the reply that it ended in cell 0, with two octets of its count and the octet behind them
abbrev ended : ℕ → ℕ → ℕ → List ℕ
ended high low info =
    0x05 ∷ 0x00 ∷ 0x00 ∷ 0x13 ∷ 0x0E ∷ 0x00 ∷ 0x32 ∷ 0x02 ∷ 0x10 ∷ 0x10 ∷ 0x08 ∷ 0x00 ∷ 0x08 ∷ 0x01 ∷ 0x01 ∷ 0x01 ∷ 0x00 ∷ 0x01 ∷ high ∷ low ∷ info ∷ 0x12 ∷ 0x00 ∷ []

pub record CallsHold : Type 0 where
  pub first_announcing :
      octets_of (comes (announcing 1 2048) (table_with false [])).reply
      ≡ 0x13 ∷ 0x00 ∷ 0x00 ∷ 0x10 ∷ 0x04 ∷ 0x00 ∷ 0x09 ∷ 0x01 ∷ 0x01 ∷ 0x01 ∷ 0x00 ∷ 0x01 ∷ 0x01 ∷ 0x01 ∷ 0x00 ∷ 0x02 ∷ 0x16 ∷ 0x00 ∷ 0x0D ∷ 0x01 ∷ []
  pub later_announcing :
      octets_of (comes (announcing 1 2048) (table_with true [])).reply
      ≡ 0x13 ∷ 0x00 ∷ 0x00 ∷ 0x10 ∷ 0x04 ∷ 0x00 ∷ 0x09 ∷ 0x01 ∷ 0x01 ∷ 0x01 ∷ 0x00 ∷ 0x01 ∷ 0x01 ∷ 0x01 ∷ 0x00 ∷ 0x02 ∷ 0x16 ∷ 0x00 ∷ 0x0D ∷ 0x00 ∷ []
  pub reset_answered :
      octets_of (message (0x10 ∷ 0x00 ∷ 0x00 ∷ 0x04 ∷ 0x04 ∷ 0x00 ∷ 0x01 ∷ 0x06 ∷ []) (table_with true [])).reply
      ≡ 0x11 ∷ 0x00 ∷ 0x00 ∷ 0x0C ∷ 0x04 ∷ 0x00 ∷ 0x09 ∷ 0x01 ∷ 0x01 ∷ 0x01 ∷ 0x00 ∷ 0x01 ∷ 0x01 ∷ 0x01 ∷ 0x00 ∷ 0x02 ∷ []
  pub keep_alive_answered :
      octets_of (message (0x16 ∷ 0x00 ∷ 0x00 ∷ 0x02 ∷ 0x18 ∷ 0x26 ∷ []) (table_with true [])).reply ≡ 0x17 ∷ 0x00 ∷ 0x00 ∷ 0x00 ∷ []
  pub fault_answered :
      octets_of (message (0x16 ∷ 0x00 ∷ 0x00 ∷ 0x02 ∷ 0x18 ∷ 0x27 ∷ []) (table_with true [])).reply ≡ 0x15 ∷ 0x00 ∷ 0x00 ∷ 0x02 ∷ 0x0B ∷ 0x01 ∷ []
  pub fault_told :
      (message (0x16 ∷ 0x00 ∷ 0x00 ∷ 0x02 ∷ 0x18 ∷ 0x27 ∷ []) (table_with true [])).fault
      ≡ Some (record { cause = ParameterValueInvalid; layer = layer.Values; place = 5 })
  pub kill_of_none :
      octets_of (message (killing 0x10) (table_with true [])).reply
      ≡ 0x06 ∷ 0x00 ∷ 0x00 ∷ 0x11 ∷ 0x0E ∷ 0x00 ∷ 0x32 ∷ 0x02 ∷ 0x10 ∷ 0x10 ∷ 0x09 ∷ 0x00 ∷ 0x06 ∷ 0x01 ∷ 0x01 ∷ 0x01 ∷ 0x00 ∷ 0x01 ∷ 0x02 ∷ 0x12 ∷ 0x00 ∷ []
  -- 1013 has the code of 1010, 1020 has not
  pub killed_by_code : rows_at (message (killing 0x13) (table_with true (gone_out 3 ∷ []))).table 0 ≡ []
  pub kept_by_code : rows_at (message (killing 0x20) (table_with true (gone_out 3 ∷ []))).table 0 ≡ gone_out 3 ∷ []
  pub plain_count : octets_of (message (killing 0x10) (table_with true (gone_out 65535 ∷ []))).reply ≡ ended 0xFF 0xFF 0x00
  pub overflow : octets_of (message (killing 0x10) (table_with true (gone_out 65536 ∷ []))).reply ≡ ended 0xFF 0xFF 0x01

-- a WRITE-REPLACE in all cells: the message 0032 with serial number 1010 on the basic channel, every period, with no bound, in one page of A
abbrev writing : List ℕ
writing =
    0x01 ∷ 0x00 ∷ 0x00 ∷ 0x6C ∷ 0x0E ∷ 0x00 ∷ 0x32 ∷ 0x03 ∷ 0x10 ∷ 0x10 ∷ 0x04 ∷ 0x00 ∷ 0x01 ∷ 0x06 ∷ 0x12 ∷ 0x00 ∷ 0x05 ∷ 0x02 ∷ 0x06 ∷ 0x00 ∷ 0x01 ∷ 0x07 ∷ 0x00 ∷ 0x00
    ∷ 0x13 ∷ 0x01 ∷ 0x0C ∷ 0x44 ∷ 0x01 ∷ 0x52 ∷ replicate 82 0x41

-- the texts of a table after it
abbrev written : List Text
written = record { coding = 0x44; pages = record { content = replicate 82 0x41 } ∷ [] } ∷ replicate 31 no_text

-- a table that is announced, with a message in cell 0
abbrev busy : State
busy = table_with true (gone_out 3 ∷ [])

-- what the table is then
pub record TablesHold : Type 0 where
  pub opened : (comes opening busy).table ≡ with_link busy 2 false true
  pub announced : (comes (announcing 1 2048) (table_with false [])).table ≡ with_link (table_with false []) 1 true true
  pub begun : (message writing (table_with true [])).table ≡ with_rows (table_with true []) ((gone_out 0 ∷ []) ∷ (gone_out 0 ∷ []) ∷ []) written
  pub kept_alive : (message (0x16 ∷ 0x00 ∷ 0x00 ∷ 0x02 ∷ 0x18 ∷ 0x0B ∷ []) (with_period busy [] 7)).table ≡ with_alive (with_period busy [] 7) (Some (record { seconds = 12; since = 7 }))
  pub fault_keeps : (message (0x16 ∷ 0x00 ∷ 0x00 ∷ 0x02 ∷ 0x18 ∷ 0x27 ∷ []) busy).table ≡ busy
  pub queried : (message (0x0A ∷ 0x00 ∷ 0x00 ∷ 0x0E ∷ 0x0E ∷ 0x00 ∷ 0x32 ∷ 0x02 ∷ 0x10 ∷ 0x10 ∷ 0x04 ∷ 0x00 ∷ 0x03 ∷ 0x02 ∷ 0x00 ∷ 0x01 ∷ 0x12 ∷ 0x00 ∷ []) busy).table ≡ busy
  pub emptied : rows_at (message (0x10 ∷ 0x00 ∷ 0x00 ∷ 0x04 ∷ 0x04 ∷ 0x00 ∷ 0x01 ∷ 0x06 ∷ []) busy).table 0 ≡ []
  pub lost : (comes (losing 1 0 2048) busy).table ≡ busy
  pub came_empty : rows_at (comes (returning 1 0 Lost 2048) busy).table 0 ≡ []
  pub came_full : (comes (returning 1 0 Available 2048) busy).table ≡ busy
  pub shut : (comes (shutting 1) busy).table ≡ with_link busy 1 false true
  pub shut_stale : (comes (shutting 0) busy).table ≡ busy
  pub shut_waiting : (comes (shutting 0) (table_with false [])).table ≡ table_with false []

-- what is sent
pub record SentHolds : Type 0 where
  pub opened : octets_of (comes opening busy).reply ≡ []
  pub lost : octets_of (comes (losing 1 1 2048) busy).reply ≡ 0x14 ∷ 0x00 ∷ 0x00 ∷ 0x0B ∷ 0x09 ∷ 0x00 ∷ 0x06 ∷ 0x01 ∷ 0x01 ∷ 0x01 ∷ 0x00 ∷ 0x02 ∷ 0x0A ∷ 0x16 ∷ 0x00 ∷ []
  pub came_empty : octets_of (comes (returning 1 0 Lost 2048) busy).reply ≡ 0x13 ∷ 0x00 ∷ 0x00 ∷ 0x0C ∷ 0x04 ∷ 0x00 ∷ 0x05 ∷ 0x01 ∷ 0x01 ∷ 0x01 ∷ 0x00 ∷ 0x01 ∷ 0x16 ∷ 0x00 ∷ 0x0D ∷ 0x01 ∷ []
  pub came_full : octets_of (comes (returning 1 0 Available 2048) busy).reply ≡ 0x13 ∷ 0x00 ∷ 0x00 ∷ 0x0C ∷ 0x04 ∷ 0x00 ∷ 0x05 ∷ 0x01 ∷ 0x01 ∷ 0x01 ∷ 0x00 ∷ 0x01 ∷ 0x16 ∷ 0x00 ∷ 0x0D ∷ 0x00 ∷ []
  pub shut : octets_of (comes (shutting 1) busy).reply ≡ []
  pub begun :
      octets_of (message writing (table_with true [])).reply
      ≡ 0x02 ∷ 0x00 ∷ 0x00 ∷ 0x14 ∷ 0x0E ∷ 0x00 ∷ 0x32 ∷ 0x03 ∷ 0x10 ∷ 0x10 ∷ 0x04 ∷ 0x00 ∷ 0x09 ∷ 0x01 ∷ 0x01 ∷ 0x01 ∷ 0x00 ∷ 0x01 ∷ 0x01 ∷ 0x01 ∷ 0x00 ∷ 0x02 ∷ 0x12 ∷ 0x00 ∷ []

-- a KEEP-ALIVE of 12 seconds is overdue after more than 36 seconds: 19 periods of 1.883 seconds are fewer, 20 are more
pub record OverdueHolds : Type 0 where
  pub none : is_overdue (with_period busy [] 1000) ≡ false
  pub not_yet : is_overdue (with_alive (with_period busy [] 24) (Some (record { seconds = 12; since = 5 }))) ≡ false
  pub overdue : is_overdue (with_alive (with_period busy [] 25) (Some (record { seconds = 12; since = 5 }))) ≡ true
