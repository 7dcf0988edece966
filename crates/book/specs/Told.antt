-- What a message of the controller tells the broadcast centre of its cells.
use Rattle.std.specs.Prelude.{ℕ, Bool, true, false, ◌&&◌, ◌||◌, List, [], ◌∷◌, Some, None, Ok, Err, Option, Result, ◌==◌, slice_index}
use Rattle.cbsp.specs.declared.channel.Channel.{Channel}
use Rattle.cbsp.specs.Channels.{channel_code}
use Rattle.cbsp.specs.Serials.{same_code}
use Rattle.cells.specs.declared.cell.Identity.{Identity}
use Rattle.elements.specs.declared.recovery.Recovery.{Recovery}
use Rattle.elements.specs.declared.recovery.Recovery.TheVariants.{Available, Lost}
use Rattle.cbsp.specs.Octets.{two_at}
use Rattle.elements.specs.Octets.{mapped}
use Rattle.lists.specs.declared.cell.CellIdentity.{CellIdentity}
use Rattle.lists.specs.declared.cell.CellIdentity.TheVariants.{LacCi, Ci, Lac, All}
use Rattle.lists.specs.CellLists.{CellsV, all, named}
use Rattle.lists.specs.Entries.{Entry}
use Rattle.answers.specs.Answers.{AnswerV, DoneV, write_complete, write_failure, kill_complete, kill_failure, status_complete, status_failure, reset_complete, reset_failure, restart, failure, error, keep_alive_complete}
use Rattle.messages.specs.Messages.{MessageV, request, answer, read_message}
use Rattle.messages.specs.declared.message.Unread.{Unread}

-- a message of a cell, as the book holds and compares it
pub record Booked : Type 0 where
  pub channel : Channel
  pub identifier : ℕ
  pub serial : ℕ

-- whether two have one channel, one identifier and one code of their serial numbers
abbrev pub same_booked : Booked → Booked → Bool
same_booked a b = channel_code b.channel == channel_code a.channel && b.identifier == a.identifier && same_code b.serial a.serial

-- whether an entry names a cell: replies name cells by location area code and cell identity
abbrev pub means : Identity → CellIdentity → Bool
means i (LacCi lac ci) = i.lac == lac && i.ci == ci
means i (Ci ci) = false
means i (Lac lac) = false
means i All = false

abbrev pub is_listed : Identity → List Entry → Bool
is_listed i [] = false
is_listed i (e ∷ es) = means i e.cell || is_listed i es

abbrev pub is_in : Identity → CellsV → Bool
is_in i all = true
is_in i (named es) = is_listed i es

abbrev pub is_in_some : Identity → Option CellsV → Bool
is_in_some i None = false
is_in_some i (Some cells) = is_in i cells

-- the count of a completed entry, and whether it is marked overflow
abbrev pub count_in : Entry → ℕ
count_in e = two_at e.tail 0

abbrev pub overflows : Entry → Bool
overflows e = slice_index e.tail 2 == 1

-- what is told
pub data Told : Type 0 where
  -- nothing of which the book takes note
  silent : Told
  -- these cells have no message any more
  emptied : CellsV → Told
  -- a message ended, in the cells of the completed entries
  ended : Booked → List Entry → Told
  -- a message began in the place of an old one, if one was given: completed entries, the Cell List, failures
  written : Option Booked → Booked → List Entry → Option CellsV → List Entry → Told

abbrev pub on_restart : Recovery → CellsV → Told
on_restart Available cells = silent
on_restart Lost cells = emptied cells

abbrev pub on_cells : Option CellsV → Told
on_cells None = silent
on_cells (Some cells) = emptied cells

abbrev pub or_empty : Option (List Entry) → List Entry
or_empty None = []
or_empty (Some es) = es

abbrev pub booked : Channel → ℕ → ℕ → Booked
booked channel identifier serial = record { channel = channel; identifier = identifier; serial = serial }

-- without a Channel Indicator nothing is told of any message
abbrev pub on_kill : Option Channel → ℕ → ℕ → DoneV → Told
on_kill None identifier serial done = silent
on_kill (Some channel) identifier serial done = ended (booked channel identifier serial) (or_empty done.completed)

abbrev pub on_write : Option Channel → ℕ → Option ℕ → ℕ → DoneV → List Entry → Told
on_write None identifier old new done failures = silent
on_write (Some channel) identifier old new done failures =
    written (mapped (booked channel identifier) old) (booked channel identifier new) (or_empty done.completed) done.cells failures

abbrev pub told_by : AnswerV → Told
told_by (write_complete v) = on_write v.done.channel v.identifier v.old_serial v.new_serial v.done []
told_by (write_failure v) = on_write v.done.channel v.identifier v.old_serial v.new_serial v.done v.failures
told_by (kill_complete v) = on_kill v.done.channel v.identifier v.serial v.done
told_by (kill_failure v) = on_kill v.done.channel v.identifier v.serial v.done
told_by (status_complete v) = silent
told_by (status_failure v) = silent
told_by (reset_complete cells) = emptied cells
told_by (reset_failure v) = on_cells v.cells
told_by (restart v) = on_restart v.recovery v.cells
told_by (failure v) = silent
told_by (error v) = silent
told_by (keep_alive_complete v) = silent

abbrev pub told_of : Result MessageV Unread → Told
told_of (Ok (answer a)) = told_by a
told_of (Ok (request r)) = silent
told_of (Err e) = silent

-- what octets tell; no octets tell nothing
abbrev pub told : List ℕ → Told
told octets = told_of (read_message octets)
