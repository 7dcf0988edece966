-- What WRITE-REPLACE comes to in one cell.
use Rattle.std.specs.Prelude.{ℕ, Bool, true, false, cond, not, List, [], ◌∷◌, ◌++◌, length, is_some, Some, None, Option, Ok, Err, Result, nat_le, slice_index_or, slice_set}
use Rattle.std.specs.Option.{unwrap_or}
use Rattle.cbsp.specs.declared.channel.Channel.{Channel}
use Rattle.cbsp.specs.declared.channel.Channel.TheVariants.{Basic, Extended}
use Rattle.cells.specs.declared.cell.Capability.{Capability}
use Rattle.cells.specs.declared.cell.Capability.TheVariants.{NoChannel, BasicOnly, BothChannels}
use Rattle.elements.specs.declared.cause.Cause.{Cause}
use Rattle.elements.specs.declared.cause.Cause.TheVariants.{
  MessageReferenceNotIdentified,
  CellMemoryExceeded,
  BscMemoryExceeded,
  CellBroadcastNotSupported,
  CellBroadcastNotOperational,
  ExtendedChannelNotSupported,
  MessageReferenceAlreadyUsed,
}
use Rattle.rows.specs.declared.row.Row.{Row}
use Rattle.rows.specs.declared.key.Key.{Key}
use Rattle.rows.specs.Keys.{key_of, is_same, first_of, without}
use Rattle.table.specs.declared.asked.Asked.{Asked}
use Rattle.table.specs.declared.outcome.Outcome.{Outcome}
use Rattle.table.specs.declared.write.Write.{Write}
use Rattle.table.specs.Acts.{Acts}
use Rattle.table.specs.Outcomes.{outcome}
use Rattle.table.specs.Pool.{free_slot}
use Rattle.table.specs.Settings.{Setting, here, replaced, count_of}

-- what is the same as a serial number on the request's channel, with its message identifier
abbrev pub key_in : Asked → ℕ → Key
key_in q serial = key_of q.channel q.identifier serial

-- the message that begins, with a slot
abbrev pub row_of : Asked → ℕ → Row
row_of q slot =
    record {
      channel = q.channel;
      identifier = q.identifier;
      serial = q.serial;
      period = q.period;
      requested = q.requested;
      count = 0;
      wait = 0;
      slot = slot;
    }

-- a cell can broadcast at all; it can on a channel
abbrev pub has_channel : Capability → Bool
has_channel NoChannel = false
has_channel BasicOnly = true
has_channel BothChannels = true

abbrev pub supports : Capability → Channel → Bool
supports NoChannel Basic = false
supports NoChannel Extended = false
supports BasicOnly Basic = true
supports BasicOnly Extended = false
supports BothChannels Basic = true
supports BothChannels Extended = true

-- an old message was given, and is absent
abbrev pub lacks : Asked → Option ℕ → List Row → Bool
lacks q None rs = false
lacks q (Some serial) rs = not (is_some (first_of (is_same (key_in q serial)) rs))

-- why nothing is done in a cell: the first that applies
abbrev pub barred : Asked → Capability → Bool → List Row → Option Cause
barred q capability opened rs =
    cond (has_channel capability)
    (cond (supports capability q.channel)
    (cond opened
    (cond (lacks q q.old rs) (Some MessageReferenceNotIdentified) None)
    (Some CellBroadcastNotOperational))
    (Some ExtendedChannelNotSupported))
    (Some CellBroadcastNotSupported)

-- the cell's messages once the old one ended, if one was given, and its count
abbrev pub cut : Asked → Option ℕ → List Row → List Row
cut q None rs = rs
cut q (Some serial) rs = without (is_same (key_in q serial)) rs

abbrev pub ended_by : Asked → Option ℕ → List Row → Option ℕ
ended_by q None rs = None
ended_by q (Some serial) rs = count_of (first_of (is_same (key_in q serial)) rs)

-- why none begins after that, where there is a slot for it or not: the first that applies
abbrev pub blocked : Asked → List Row → Option ℕ → Option Cause
blocked q rs slot =
    cond (is_some (first_of (is_same (key_in q q.serial)) rs)) (Some MessageReferenceAlreadyUsed)
    (cond (nat_le 8 (length rs)) (Some CellMemoryExceeded) (cond (is_some slot) None (Some BscMemoryExceeded)))

-- the value, unless there is a cause
abbrev pub unless : {A : Type 0} → Option Cause → A → Result A Cause
unless None a = Ok a
unless (Some c) a = Err c

-- the request's own slot, else one that is free
abbrev pub slot_for : List (List Row) → Option ℕ → Option ℕ
slot_for rows None = free_slot rows
slot_for rows (Some slot) = Some slot

module _ (w : Write) (s : Setting) where
  abbrev pub bar : Option Cause
  bar = barred w.asked s.capability s.opened (here s)

  -- the messages of all cells once the old one ended
  unfoldable pub cleared : List (List Row)
  cleared = cond (is_some bar) s.rows (replaced s (cut w.asked w.asked.old (here s)))

  -- the slot that a message begun now would have
  unfoldable pub slot_now : Option ℕ
  slot_now = slot_for cleared w.slot

  unfoldable pub cause_now : Option Cause
  cause_now = cond (is_some bar) bar (blocked w.asked (slice_index_or cleared s.cell []) slot_now)

  unfoldable pub answer_write : Outcome
  answer_write = outcome s.cell (cond (is_some bar) None (ended_by w.asked w.asked.old (here s))) cause_now

  unfoldable pub written : List (List Row)
  written = cond (is_some cause_now) cleared (slice_set cleared s.cell (slice_index_or cleared s.cell [] ++ row_of w.asked (unwrap_or slot_now 0) ∷ []))

  -- the request keeps the slot with which it first began a message
  unfoldable pub write_after : Write
  write_after = record { asked = w.asked; slot = cond (is_some cause_now) w.slot slot_now }

-- WRITE-REPLACE as a kind of request
abbrev pub write_acts : Acts Write
write_acts = record { answer = answer_write; leaves = written; becomes = write_after }
