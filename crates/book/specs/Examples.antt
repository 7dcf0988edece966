-- Worked examples of the book, over the definitions that the law uses. Octets are hexadecimal.
use Rattle.std.specs.Prelude.{◌≡◌, ℕ, true, false, [], ◌∷◌, Some, None}
use Rattle.cbsp.specs.declared.channel.Channel.{Channel}
use Rattle.cbsp.specs.declared.channel.Channel.TheVariants.{Basic, Extended}
use Rattle.cells.specs.declared.cell.Identity.{Identity}
use Rattle.lists.specs.declared.cell.CellIdentity.TheVariants.{LacCi, Ci, Lac, All}
use Rattle.lists.specs.CellLists.{CellsV, all, named}
use Rattle.lists.specs.Entries.{Entry}
use Rattle.book.specs.Book.{added, book_after, is_emptied, overflowed}
use Rattle.book.specs.Told.{Booked, Told, booked, count_in, is_in, means, overflows, same_booked, told}
use Rattle.book.specs.Told.Told.{silent, emptied, ended, written}

-- the cells of the location area 0101 with identities 1 and 2
abbrev cell : ℕ → Identity
cell ci = record { lac = 0x101; ci = ci }

abbrev listed : ℕ → Entry
listed ci = record { cell = LacCi 0x101 ci; tail = [] }

abbrev failed : ℕ → ℕ → Entry
failed ci cause = record { cell = LacCi 0x101 ci; tail = cause ∷ [] }

-- a count in two octets, and the octet that says whether there were more
abbrev counted : ℕ → ℕ → ℕ → ℕ → Entry
counted ci high low info = record { cell = LacCi 0x101 ci; tail = high ∷ low ∷ info ∷ [] }

abbrev both : CellsV
both = named (listed 1 ∷ listed 2 ∷ [])

-- the message 0032 with a serial number
abbrev on : Channel → ℕ → Booked
on channel serial = booked channel 0x32 serial

abbrev old : Booked
old = on Basic 0x1010

abbrev new : Booked
new = on Basic 0x1020

-- the message that stood before `old`
abbrev other : Booked
other = booked Basic 0x33 0x1010

-- a WRITE-REPLACE of `new` in the place of `old`, whose count 7 is told for cell 1
abbrev replaced : Told
replaced = written (Some old) new (counted 1 0 7 0 ∷ []) (Some both) (failed 2 4 ∷ [])

-- the same with no failures and another Cell List
abbrev begun : CellsV → Told
begun cells = written None new [] (Some cells) []

-- what each message tells
pub record ToldHolds : Type 0 where
  pub nothing : told [] ≡ silent
  pub request : told (0x10 ∷ 0x00 ∷ 0x00 ∷ 0x04 ∷ 0x04 ∷ 0x00 ∷ 0x01 ∷ 0x06 ∷ []) ≡ silent
  pub write_complete :
      told (0x02 ∷ 0x00 ∷ 0x00 ∷ 0x14 ∷ 0x0E ∷ 0x00 ∷ 0x32 ∷ 0x03 ∷ 0x10 ∷ 0x20 ∷ 0x04 ∷ 0x00 ∷ 0x09 ∷ 0x01 ∷ 0x01 ∷ 0x01 ∷ 0x00 ∷ 0x01 ∷ 0x01 ∷ 0x01 ∷ 0x00 ∷ 0x02 ∷ 0x12 ∷ 0x00 ∷ [])
      ≡ begun both
  pub write_failure :
      told
      (0x03 ∷ 0x00 ∷ 0x00 ∷ 0x2B ∷ 0x0E ∷ 0x00 ∷ 0x32 ∷ 0x03 ∷ 0x10 ∷ 0x20 ∷ 0x02 ∷ 0x10 ∷ 0x10 ∷ 0x09 ∷ 0x00 ∷ 0x06 ∷ 0x01 ∷ 0x01 ∷ 0x01 ∷ 0x00 ∷ 0x02 ∷ 0x04 ∷ 0x08 ∷ 0x00 ∷ 0x08
      ∷ 0x01 ∷ 0x01 ∷ 0x01 ∷ 0x00 ∷ 0x01 ∷ 0x00 ∷ 0x07 ∷ 0x00 ∷ 0x04 ∷ 0x00 ∷ 0x09 ∷ 0x01 ∷ 0x01 ∷ 0x01 ∷ 0x00 ∷ 0x01 ∷ 0x01 ∷ 0x01 ∷ 0x00 ∷ 0x02 ∷ 0x12 ∷ 0x00 ∷ [])
      ≡ replaced
  -- with no Channel Indicator
  pub write_unsaid :
      told (0x02 ∷ 0x00 ∷ 0x00 ∷ 0x0E ∷ 0x0E ∷ 0x00 ∷ 0x32 ∷ 0x03 ∷ 0x10 ∷ 0x20 ∷ 0x04 ∷ 0x00 ∷ 0x05 ∷ 0x01 ∷ 0x01 ∷ 0x01 ∷ 0x00 ∷ 0x01 ∷ []) ≡ silent
  pub kill_complete :
      told
      (0x05 ∷ 0x00 ∷ 0x00 ∷ 0x13 ∷ 0x0E ∷ 0x00 ∷ 0x32 ∷ 0x02 ∷ 0x10 ∷ 0x10 ∷ 0x08 ∷ 0x00 ∷ 0x08 ∷ 0x01 ∷ 0x01 ∷ 0x01 ∷ 0x00 ∷ 0x01 ∷ 0x00 ∷ 0x07 ∷ 0x00 ∷ 0x12 ∷ 0x01 ∷ [])
      ≡ ended (on Extended 0x1010) (counted 1 0 7 0 ∷ [])
  pub kill_failure :
      told (0x06 ∷ 0x00 ∷ 0x00 ∷ 0x11 ∷ 0x0E ∷ 0x00 ∷ 0x32 ∷ 0x02 ∷ 0x10 ∷ 0x10 ∷ 0x09 ∷ 0x00 ∷ 0x06 ∷ 0x01 ∷ 0x01 ∷ 0x01 ∷ 0x00 ∷ 0x01 ∷ 0x02 ∷ 0x12 ∷ 0x00 ∷ []) ≡ ended old []
  pub kill_unsaid :
      told (0x05 ∷ 0x00 ∷ 0x00 ∷ 0x11 ∷ 0x0E ∷ 0x00 ∷ 0x32 ∷ 0x02 ∷ 0x10 ∷ 0x10 ∷ 0x08 ∷ 0x00 ∷ 0x08 ∷ 0x01 ∷ 0x01 ∷ 0x01 ∷ 0x00 ∷ 0x01 ∷ 0x00 ∷ 0x07 ∷ 0x00 ∷ []) ≡ silent
  pub status_complete :
      told
      (0x0B ∷ 0x00 ∷ 0x00 ∷ 0x13 ∷ 0x0E ∷ 0x00 ∷ 0x32 ∷ 0x02 ∷ 0x10 ∷ 0x10 ∷ 0x08 ∷ 0x00 ∷ 0x08 ∷ 0x01 ∷ 0x01 ∷ 0x01 ∷ 0x00 ∷ 0x01 ∷ 0x00 ∷ 0x07 ∷ 0x00 ∷ 0x12 ∷ 0x00 ∷ []) ≡ silent
  pub reset_complete :
      told (0x11 ∷ 0x00 ∷ 0x00 ∷ 0x0C ∷ 0x04 ∷ 0x00 ∷ 0x09 ∷ 0x01 ∷ 0x01 ∷ 0x01 ∷ 0x00 ∷ 0x01 ∷ 0x01 ∷ 0x01 ∷ 0x00 ∷ 0x02 ∷ []) ≡ emptied both
  pub reset_failure :
      told
      (0x12 ∷ 0x00 ∷ 0x00 ∷ 0x11 ∷ 0x09 ∷ 0x00 ∷ 0x06 ∷ 0x01 ∷ 0x01 ∷ 0x01 ∷ 0x00 ∷ 0x01 ∷ 0x0C ∷ 0x04 ∷ 0x00 ∷ 0x05 ∷ 0x01 ∷ 0x01 ∷ 0x01 ∷ 0x00 ∷ 0x02 ∷ [])
      ≡ emptied (named (listed 2 ∷ []))
  pub no_reset : told (0x12 ∷ 0x00 ∷ 0x00 ∷ 0x09 ∷ 0x09 ∷ 0x00 ∷ 0x06 ∷ 0x01 ∷ 0x01 ∷ 0x01 ∷ 0x00 ∷ 0x01 ∷ 0x0C ∷ []) ≡ silent
  pub lost :
      told (0x13 ∷ 0x00 ∷ 0x00 ∷ 0x10 ∷ 0x04 ∷ 0x00 ∷ 0x09 ∷ 0x01 ∷ 0x01 ∷ 0x01 ∷ 0x00 ∷ 0x01 ∷ 0x01 ∷ 0x01 ∷ 0x00 ∷ 0x02 ∷ 0x16 ∷ 0x00 ∷ 0x0D ∷ 0x01 ∷ [])
      ≡ emptied both
  pub available :
      told (0x13 ∷ 0x00 ∷ 0x00 ∷ 0x10 ∷ 0x04 ∷ 0x00 ∷ 0x09 ∷ 0x01 ∷ 0x01 ∷ 0x01 ∷ 0x00 ∷ 0x01 ∷ 0x01 ∷ 0x01 ∷ 0x00 ∷ 0x02 ∷ 0x16 ∷ 0x00 ∷ 0x0D ∷ 0x00 ∷ []) ≡ silent
  pub failure : told (0x14 ∷ 0x00 ∷ 0x00 ∷ 0x0B ∷ 0x09 ∷ 0x00 ∷ 0x06 ∷ 0x01 ∷ 0x01 ∷ 0x01 ∷ 0x00 ∷ 0x01 ∷ 0x0C ∷ 0x16 ∷ 0x00 ∷ []) ≡ silent
  pub error : told (0x15 ∷ 0x00 ∷ 0x00 ∷ 0x02 ∷ 0x0B ∷ 0x01 ∷ []) ≡ silent
  pub keep_alive : told (0x17 ∷ 0x00 ∷ 0x00 ∷ 0x00 ∷ []) ≡ silent

-- how messages and cells are compared
pub record ComparedHolds : Type 0 where
  -- 1013 has the code of 1010, 1020 has not
  pub same_code : same_booked old (on Basic 0x1013) ≡ true
  pub other_code : same_booked old new ≡ false
  pub other_channel : same_booked old (on Extended 0x1010) ≡ false
  pub other_identifier : same_booked old other ≡ false
  pub meant : means (cell 1) (LacCi 0x101 1) ≡ true
  pub other_cell : means (cell 1) (LacCi 0x101 2) ≡ false
  pub other_area : means (cell 1) (LacCi 0x102 1) ≡ false
  pub by_identity : means (cell 1) (Ci 1) ≡ false
  pub by_area : means (cell 1) (Lac 0x101) ≡ false
  pub by_all : means (cell 1) All ≡ false
  pub in_all : is_in (cell 1) all ≡ true
  pub in_both : is_in (cell 2) both ≡ true
  pub not_in : is_in (cell 3) both ≡ false
  pub count : count_in (counted 1 1 2 0) ≡ 258
  pub exact : overflows (counted 1 0 1 0) ≡ false
  pub overflow : overflows (counted 1 0 1 1) ≡ true
  pub unknown : overflows (counted 1 0 1 2) ≡ false

-- what the book holds then
pub record BookHolds : Type 0 where
  pub kept : book_after (cell 1) silent (old ∷ []) ≡ old ∷ []
  pub emptied_there : book_after (cell 1) (emptied both) (other ∷ old ∷ []) ≡ []
  pub emptied_elsewhere : book_after (cell 3) (emptied both) (old ∷ []) ≡ old ∷ []
  pub ended_there : book_after (cell 1) (ended (on Basic 0x1013) (counted 1 0 7 0 ∷ [])) (other ∷ old ∷ old ∷ []) ≡ other ∷ old ∷ []
  pub ended_elsewhere : book_after (cell 2) (ended old (counted 1 0 7 0 ∷ [])) (old ∷ []) ≡ old ∷ []
  -- the new message stands behind the others
  pub began : book_after (cell 1) (begun both) (other ∷ []) ≡ other ∷ new ∷ []
  pub not_named : book_after (cell 2) (begun (named (listed 1 ∷ []))) (other ∷ []) ≡ other ∷ []
  pub replaced_there : book_after (cell 1) replaced (old ∷ other ∷ []) ≡ other ∷ new ∷ []
  pub failed_there : book_after (cell 2) replaced (old ∷ []) ≡ old ∷ []
  -- the old message ended, and the new one did not begin
  pub cut_off : book_after (cell 1) (written (Some old) new (counted 1 0 7 0 ∷ []) None (failed 1 8 ∷ [])) (old ∷ []) ≡ []
  -- a cell with a count alone
  pub by_count : book_after (cell 1) (written (Some old) new (counted 1 0 7 0 ∷ []) None []) (old ∷ []) ≡ new ∷ []
  pub without_old : book_after (cell 1) (written None new (counted 1 0 7 0 ∷ []) None []) (old ∷ []) ≡ old ∷ new ∷ []

-- what is summed
pub record SumsHold : Type 0 where
  pub by_kill : added (cell 1) Basic (ended old (counted 1 1 2 0 ∷ counted 2 0 5 0 ∷ counted 1 0 1 0 ∷ [])) ≡ 259
  pub other_channel : added (cell 1) Extended (ended old (counted 1 0 7 0 ∷ [])) ≡ 0
  pub by_write : added (cell 1) Basic replaced ≡ 7
  pub not_counted : added (cell 2) Basic replaced ≡ 0
  pub write_elsewhere : added (cell 1) Extended replaced ≡ 0
  pub by_reset : added (cell 1) Basic (emptied both) ≡ 0
  pub by_nothing : added (cell 1) Basic silent ≡ 0
  pub overflow_there : overflowed (cell 1) (ended old (counted 2 0 1 0 ∷ counted 1 0 1 1 ∷ [])) ≡ true
  pub overflow_elsewhere : overflowed (cell 2) (ended old (counted 1 0 1 1 ∷ [])) ≡ false
  pub overflow_by_write : overflowed (cell 1) (written (Some old) new (counted 1 0 1 1 ∷ []) None []) ≡ true
  pub no_overflow : overflowed (cell 1) replaced ≡ false
  pub reset_overflow : overflowed (cell 1) (emptied both) ≡ false
  pub silent_overflow : overflowed (cell 1) silent ≡ false
  pub was_emptied : is_emptied (cell 2) (emptied both) ≡ true
  pub not_emptied : is_emptied (cell 3) (emptied both) ≡ false
  pub ended_is_not : is_emptied (cell 1) (ended old (counted 1 0 7 0 ∷ [])) ≡ false
  pub written_is_not : is_emptied (cell 1) replaced ≡ false
  pub silent_is_not : is_emptied (cell 1) silent ≡ false
