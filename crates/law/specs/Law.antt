-- The law of runs: the centre's book, the table and the site's counts agree, and what is due goes out.
-- Moments stand newest first, the messages of a cell oldest first.
use Rattle.std.specs.Prelude.{◌≡◌, ℕ, ◌+◌, ◌<◌, ◌≤◌, Bool, true, false, cond, not, ◌&&◌, ◌||◌, ◌⊎◌, List, [], ◌∷◌, map, length, Some, None, sum_by, Option, ◌≢◌}
use Rattle.cbsp.specs.declared.channel.Channel.{Channel}
use Rattle.cells.specs.declared.cell.Cell.{Cell}
use Rattle.cells.specs.declared.cell.Identity.{Identity}
use Rattle.cells.specs.File.{identities}
use Rattle.rows.specs.declared.row.Row.{Row}
use Rattle.site.specs.Model.{Model}
use Rattle.site.specs.Events.{Event}
use Rattle.book.specs.Told.{Booked, Told, booked, told}
use Rattle.book.specs.Book.{book_after, added, overflowed, is_emptied, on_channel}
use Rattle.law.specs.State.{State, rows_at}
use Rattle.law.specs.Calls.{Call}
use Rattle.law.specs.Calls.Call.{opening, announcing, messaging, period, losing, returning, shutting}
use Rattle.law.specs.Steps.{Moment, World}
use Rattle.law.specs.Runs.{Fresh, Run}
use Rattle.law.specs.Standing.{Standing, standing, is_due, gone, total}

-- the messages that stand in a cell of the book, by what was sent
abbrev pub book : List Moment → Identity → List Booked
book [] i = []
book (m ∷ ms) i = book_after i (told m.sent) (book ms i)

-- the counts that the book summed for a cell and channel
abbrev pub summed : List Moment → Identity → Channel → ℕ
summed [] i h = 0
summed (m ∷ ms) i h = summed ms i h + added i h (told m.sent)

-- announcing is the one call that may say "lost" and leave the sums as they are: a table says so only before it has any message
abbrev pub is_announcing : Call → Bool
is_announcing opening = false
is_announcing (announcing n space) = true
is_announcing (messaging n octets marks space) = false
is_announcing period = false
is_announcing (losing n k space) = false
is_announcing (returning n k recovery space) = false
is_announcing (shutting n) = false

-- whether a cell leaves the sums: it was told empty, not by an announcing, or a count there told as overflow
abbrev pub spoils : Call → Told → Identity → Bool
spoils c x i = is_emptied i x && not (is_announcing c) || overflowed i x

-- the cells that the sums leave out
abbrev pub excepted : List Moment → Identity → Bool
excepted [] i = false
excepted (m ∷ ms) i = spoils m.call (told m.sent) i || excepted ms i

-- a row of the table as the book has it
abbrev pub booked_of : Row → Booked
booked_of r = booked r.channel r.identifier r.serial

-- the counts of the messages on a channel
abbrev pub tally : Channel → List Row → ℕ
tally h rs = sum_by (λ r. cond (on_channel r.channel h) r.count 0) rs

-- the lists are as long, and R ties them place by place
abbrev pub Tied : {X Y : Type 0} → (X → Y → Type 0) → List X → List Y → Type 0
Tied R [] [] = Unit {0}
Tied R [] (y ∷ ys) = ⊥
Tied R (x ∷ xs) [] = ⊥
Tied R (x ∷ xs) (y ∷ ys) = R x y × Tied R xs ys

-- a message went out n times in a period: whether its cell was open, and the room left there after it
pub record Fair (opened : Bool) (room : ℕ) (s : Standing) (n : ℕ) : Type 0 where
  pub served : (opened && is_due s) ≡ true → (n ≡ 1) ⊎ ((n ≡ 0) × (room ≡ 0))
  pub spared : (opened && is_due s) ≡ false → n ≡ 0

-- in an accepted period each message of a cell went out as it must, and the site counted just that
pub record Served (cells : List Cell) (went : ℕ → List ℕ) (m : Moment) (ms : List Moment) (k : ℕ) : Type 0 where
  pub fair : Tied (Fair (m.before.opened k) (m.after.room k)) (standing cells ms k) (went k)
  pub counts : (h : Channel) → m.after.count k h ≡ m.before.count k h + gone h (standing cells ms k) (went k)

-- outside an accepted period, and in cells that the table has not, the site counts nothing
abbrev pub Right : List Cell → Option (ℕ → List ℕ) → Moment → List Moment → Type 0
Right cells None m ms = m.after.count ≡ m.before.count
Right cells (Some went) m ms =
    ((k : ℕ) → k < length cells → Served cells went m ms k) × ((k : ℕ) (h : Channel) → length cells ≤ k → m.after.count k h ≡ m.before.count k h)

abbrev pub AllRight : List Cell → List Moment → Type 0
AllRight cells [] = Unit {0}
AllRight cells (m ∷ ms) = Right cells m.went m ms × AllRight cells ms

-- a message of the table is the one that the moments tell, with its count
pub record Kept (s : Standing) (r : Row) : Type 0 where
  pub message : booked_of r ≡ s.wanted.message
  pub count : r.count ≡ total s.past

pub record Holds (ms : List Moment) (t : State) (site : Model) : Type 0 where
  -- book and table hold the same messages in each cell, and the book has no other cell
  pub messages : (k : ℕ) → k < length t.cells → book ms (identities t.cells k) ≡ map booked_of (rows_at t k)
  pub nowhere : (i : Identity) → ((k : ℕ) → k < length t.cells → identities t.cells k ≢ i) → book ms i ≡ []
  -- what the book summed and what stands in the table is what the site counted, but in cells that are excepted
  pub sums : (k : ℕ) (h : Channel) → k < length t.cells → excepted ms (identities t.cells k) ≡ false
      → summed ms (identities t.cells k) h + tally h (rows_at t k) ≡ site.count k h
  -- each row is the message that the moments tell, with its count, and in each accepted period just those went out that had to
  pub standings : (k : ℕ) → k < length t.cells → Tied Kept (standing t.cells ms k) (rows_at t k)
  pub periods : AllRight t.cells ms

-- for every site, every list of calls from a table and a site just made
abbrev pub Law : {S : Type 0} → (S → Model) → (S → Event → S → Type 0) → Type 0
Law {S} model steps =
    (w v : World S) (ms : List Moment) → Fresh model steps w → Run model steps w ms v → Holds ms v.table (model v.site)
