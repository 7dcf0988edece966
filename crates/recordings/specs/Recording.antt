-- A recording: a cell file, then messages one behind the other.
use Rattle.std.specs.Prelude.{◌≡◌, ℕ, ◌+◌, ◌-◌, ◌*◌, ◌^◌, ◌<◌, ◌≤◌, min, cond, List, length, take, drop, Some, None, Ok, Err, Option, Result, ◌==◌, slice_index}
use Rattle.cbsp.specs.declared.refusal.Refusal.{Refusal}
use Rattle.cbsp.specs.Framing.{first_length}
use Rattle.recordings.specs.declared.recording.NoMessage.{NoMessage}
use Rattle.recordings.specs.declared.recording.Part.{Part}
use Rattle.recordings.specs.declared.recording.Parts.{Parts}
use Rattle.recordings.specs.declared.recording.NoMessage.TheVariants.{Unfinished, TooLong}

-- the first octet of a cell file tells how long it is
abbrev pub file_end : List ℕ → ℕ
file_end os = cond (length os == 0) 0 (min (2 + 5 * slice_index os 0) (length os))

abbrev pub framed : Result (Option ℕ) Refusal → Result (Option ℕ) NoMessage
framed (Ok None) = Err Unfinished
framed (Ok (Some n)) = Ok (Some n)
framed (Err e) = Err TooLong

-- the length of the message that the rest of a recording begins with, nothing at its end
abbrev pub part_of : List ℕ → Result (Option ℕ) NoMessage
part_of os = cond (length os == 0) (Ok None) (framed (first_length os))

-- a message has at least a header, and lies in the recording; where there is none, something is left
abbrev pub Within : List ℕ → Result (Option ℕ) NoMessage → Type 0
Within os (Ok None) = Unit {0}
Within os (Ok (Some n)) = (4 ≤ n) × (n ≤ length os)
Within os (Err e) = 0 < length os

-- so many octets are cut off the front, and what is left stands behind them
abbrev pub Cut : ℕ → Result (Unit {0}) NoMessage → Parts → Option Part → Parts → Type 0
Cut n whole was None is = ⊥
Cut n whole was (Some p) is = (p.offset ≡ was.offset) × (p.octets.now ≡ take n was.rest.now) × (p.whole ≡ whole) × (is.offset ≡ min (was.offset + n) (2 ^ 64 - 1)) × (is.rest.now ≡ drop n was.rest.now)

-- nothing comes at the end of a recording, else a whole message, or all that is left
abbrev pub Came : Result (Option ℕ) NoMessage → Parts → Option Part → Parts → Type 0
Came (Ok None) was r is = (r ≡ None) × (is ≡ was)
Came (Ok (Some n)) was r is = Cut n (Ok tt) was r is
Came (Err e) was r is = Cut (length was.rest.now) (Err e) was r is

abbrev pub NextPart : Parts → Option Part → Parts → Type 0
NextPart was r is = Came (part_of was.rest.now) was r is
