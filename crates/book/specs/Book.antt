-- The broadcast centre's book: which messages stand in each cell, and which counts were told, by the controller's octets alone.
use Rattle.std.specs.Prelude.{ℕ, ◌+◌, Bool, false, cond, not, ◌&&◌, ◌||◌, List, [], ◌∷◌, ◌++◌, Some, None, Option, ◌==◌}
use Rattle.cbsp.specs.declared.channel.Channel.{Channel}
use Rattle.cbsp.specs.Channels.{channel_code}
use Rattle.cells.specs.declared.cell.Identity.{Identity}
use Rattle.lists.specs.CellLists.{CellsV}
use Rattle.lists.specs.Entries.{Entry}
use Rattle.book.specs.Told.{Booked, Told, same_booked, means, is_listed, is_in, is_in_some, count_in, overflows}
use Rattle.book.specs.Told.Told.{silent, emptied, ended, written}

-- the list without the first that passes
abbrev pub without_first : {X : Type 0} → (X → Bool) → List X → List X
without_first test [] = []
without_first test (x ∷ xs) = cond (test x) xs (x ∷ without_first test xs)

-- what stands in a cell, of any kind that can be compared with a message; a message that begins stands as `begin` says
module _ {X : Type 0} (is_that : Booked → X → Bool) (begin : Booked → List X) (cell : Identity) where
  -- completed entries end the message
  abbrev pub ended_in : Booked → List Entry → List X → List X
  ended_in old completed xs = cond (is_listed cell completed) (without_first (is_that old) xs) xs

  abbrev pub ended_old : Option Booked → List Entry → List X → List X
  ended_old None completed xs = xs
  ended_old (Some old) completed xs = ended_in old completed xs

  -- the new message stands wherever the Cell List or a completed entry names the cell and no failure does
  abbrev pub begun_in : Booked → List Entry → Option CellsV → List Entry → List X → List X
  begun_in new completed cells failures xs = cond ((is_in_some cell cells || is_listed cell completed) && not (is_listed cell failures)) (xs ++ begin new) xs

  abbrev pub stands_after : Told → List X → List X
  stands_after silent xs = xs
  stands_after (emptied cells) xs = cond (is_in cell cells) [] xs
  stands_after (ended old completed) xs = ended_in old completed xs
  stands_after (written old new completed cells failures) xs = begun_in new completed cells failures (ended_old old completed xs)

-- the book: the messages of a cell once something was told
abbrev pub book_after : Identity → Told → List Booked → List Booked
book_after cell t xs = stands_after same_booked (λ new. new ∷ []) cell t xs

-- the counts that completed entries give for a cell
abbrev pub counts_at : Identity → List Entry → ℕ
counts_at i [] = 0
counts_at i (e ∷ es) = cond (means i e.cell) (count_in e) 0 + counts_at i es

abbrev pub overflows_at : Identity → List Entry → Bool
overflows_at i [] = false
overflows_at i (e ∷ es) = means i e.cell && overflows e || overflows_at i es

abbrev pub on_channel : Channel → Channel → Bool
on_channel a b = channel_code a == channel_code b

-- what is added to the sum of a cell and channel
abbrev pub added : Identity → Channel → Told → ℕ
added i h silent = 0
added i h (emptied cells) = 0
added i h (ended old completed) = cond (on_channel old.channel h) (counts_at i completed) 0
added i h (written old new completed cells failures) = cond (on_channel new.channel h) (counts_at i completed) 0

-- whether a count for the cell is marked overflow
abbrev pub overflowed : Identity → Told → Bool
overflowed i silent = false
overflowed i (emptied cells) = false
overflowed i (ended old completed) = overflows_at i completed
overflowed i (written old new completed cells failures) = overflows_at i completed

-- whether the cell was emptied
abbrev pub is_emptied : Identity → Told → Bool
is_emptied i silent = false
is_emptied i (emptied cells) = is_in i cells
is_emptied i (ended old completed) = false
is_emptied i (written old new completed cells failures) = false
