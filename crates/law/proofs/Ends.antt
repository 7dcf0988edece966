-- The messages of one cell where one ends or begins: what stands by the moments, and the table's rows.
use Rattle.std.proofs.Common.{◌≡◌, ℕ, ◌≤◌, Bool, true, false, cond, not, ◌&&◌, ◌||◌, List, [], ◌∷◌, ◌++◌, length, is_some, Some, None, Option, refl, arith}
use Rattle.answering.specs.Replies.{some_cells}
use Rattle.book.specs.Book.{stands_after, ended_old, without_first}
use Rattle.book.specs.Told.{Booked, booked, is_listed}
use Rattle.book.specs.Told.Told.{ended, written}
use Rattle.cells.specs.declared.cell.Identity.{Identity}
use Rattle.elements.specs.declared.cause.Cause.{Cause}
use Rattle.elements.specs.Octets.{mapped}
use Rattle.lists.specs.Entries.{Entry}
use Rattle.outcomes.specs.Tells.{Begun, By, Cut, Killed, cut_by, grown_by, is_old_of}
use Rattle.rows.specs.declared.key.Key.{Key}
use Rattle.rows.specs.declared.row.Row.{Row}
use Rattle.rows.specs.Keys.{is_same, key_of, without}
use Rattle.table.specs.declared.asked.Asked.{Asked}
use Rattle.table.specs.declared.outcome.Outcome.{Outcome}
use Rattle.table.specs.Write.{row_of}
use Rattle.law.specs.Law.{Tied}
use Rattle.law.proofs.Counts.{none_first}
use Rattle.law.proofs.Listing.{begins, fails, ends}
use Rattle.law.proofs.Telling.{in_some}
use Rattle.law.proofs.Tying.{either, tied_push, tied_without}

-- no more messages than before, once one ended
few_without : {X : Type 0} (p : X → Bool) (xs : List X) → length (without p xs) ≤ length xs
few_without p [] = omega arith
few_without {X} p (x ∷ xs) = go (few_without p xs) (p x)
  where
    go : length (without p xs) ≤ length xs → (b : Bool) → length (cond b xs (x ∷ without p xs)) ≤ length (x ∷ xs)
    go ih true = omega arith
    go ih false = omega arith

few_cut : (p : Row → Bool) (n : Option ℕ) (rs : List Row) → length (cut_by p n rs) ≤ length rs
few_cut p None rs = omega arith
few_cut p (Some n) rs = few_without p rs

-- no more messages than before a KILL, and no more than eight after a WRITE-REPLACE
pub few_killed : (key : Key) (p : Option Outcome) (rs ss : List Row) → By (Killed key) p rs ss → length ss ≤ length rs
few_killed key None rs ss e = rw e (omega arith)
few_killed key (Some o) rs ss e = rw e.cut.rows (few_cut (is_same key) o.ended rs)

pub few_begun : (q : Asked) (p : Option Outcome) (rs ss : List Row) → By (Begun q) p rs ss → length rs ≤ 8 → length ss ≤ 8
few_begun q None rs ss e l = rw e l
few_begun q (Some o) rs ss e l = e.few l

-- in a cell of no list nothing ends and nothing begins, and where nothing stands nothing can end
module _ {X : Type 0} (is_that : Booked → X → Bool) (begin : Booked → List X) (i : Identity) where
  kept_old : (old : Option Booked) (c : List Entry) (xs : List X) → is_listed i c ≡ false → ended_old is_that begin i old c xs ≡ xs
  kept_old None c xs l = refl
  kept_old (Some old) c xs l = rw l

  pub kept_written :
      (old : Option Booked) (new : Booked) (b c f : List Entry) (xs : List X) → is_listed i b ≡ false → is_listed i c ≡ false
      → stands_after is_that begin i (written old new c (some_cells b) f) xs ≡ xs
  kept_written old new b c f xs lb lc = rw (in_some i b, lb, lc) (kept_old old c xs lc)

  pub kept_ended : (old : Booked) (c : List Entry) → stands_after is_that begin i (ended old c) [] ≡ []
  kept_ended old c = either (is_listed i c) []

-- whatever stands in a cell, tied to its rows by R, where what is tied is the same message for both
module _ {X : Type 0} (R : X → Row → Type 0) (is_that : Booked → X → Bool) (begin : Booked → List X)
    (agrees : (old : Booked) (x : X) (r : Row) → R x r → is_that old x ≡ is_same (key_of old.channel old.identifier old.serial) r) (i : Identity) where
  -- the message that ended is taken out of both
  tied_cut :
      (old : Booked) (n : Option ℕ) (xs : List X) (rs : List Row) → Tied R xs rs
      → Tied R (cond (is_some n) (without_first (is_that old) xs) xs) (cut_by (is_same (key_of old.channel old.identifier old.serial)) n rs)
  tied_cut old None xs rs t = t
  tied_cut old (Some n) xs rs t = tied_without R (is_that old) (is_same (key_of old.channel old.identifier old.serial)) (agrees old) xs rs t

  -- KILL
  pub tied_killed :
      (old : Booked) (c : List Entry) (p : Option Outcome) (xs : List X) (rs ss : List Row) → is_listed i c ≡ ends p
      → By (Killed (key_of old.channel old.identifier old.serial)) p rs ss → Tied R xs rs → Tied R (stands_after is_that begin i (ended old c) xs) ss
  tied_killed old c None xs rs ss l e t = rw (l, e) t
  tied_killed old c (Some o) xs rs ss l e t = rw (l, e.cut.rows) (tied_cut old o.ended xs rs t)

  -- the old message of a WRITE-REPLACE, if one was given
  tied_old :
      (q : Asked) (old : Option ℕ) (c : List Entry) (n : Option ℕ) (xs : List X) (rs ss : List Row) → is_listed i c ≡ is_some n
      → Cut (is_old_of q old) n rs ss → Tied R xs rs → Tied R (ended_old is_that begin i (mapped (booked q.channel q.identifier) old) c xs) ss
  tied_old q None c None xs rs ss l e t = rw e.rows t
  tied_old q None c (Some n) xs rs ss l e t = let x = e.honest n refl in absurd (none_first rs x.0 x.1)
  tied_old q (Some serial) c n xs rs ss l e t = rw (l, e.rows) (tied_cut (booked q.channel q.identifier serial) n xs rs t)

  -- the new message begins in both where it did not fail, whether the old one ended or not
  tied_grown :
      (new : Booked) (x : X) (row : Row) (cause : Option Cause) (b : Bool) (xs : List X) (rs : List Row) → begin new ≡ x ∷ [] → R x row → Tied R xs rs
      → Tied R (cond ((not (is_some cause) || b) && not (is_some cause)) (xs ++ begin new) xs) (grown_by row cause rs)
  tied_grown new x row None b xs rs e r t = rw e (tied_push R xs rs x row t r)
  tied_grown new x row (Some cause) true xs rs e r t = t
  tied_grown new x row (Some cause) false xs rs e r t = t

  -- WRITE-REPLACE
  pub tied_written :
      (q : Asked) (x : X) (b c f : List Entry) (p : Option Outcome) (xs : List X) (rs ss : List Row) → begin (booked q.channel q.identifier q.serial) ≡ x ∷ []
      → ((slot : ℕ) → R x (row_of q slot)) → is_listed i b ≡ begins p → is_listed i c ≡ ends p → is_listed i f ≡ fails p → By (Begun q) p rs ss → Tied R xs rs
      → Tied R (stands_after is_that begin i (written (mapped (booked q.channel q.identifier) q.old) (booked q.channel q.identifier q.serial) c (some_cells b) f) xs) ss
  tied_written q x b c f None xs rs ss new new_row lb lc lf e t =
      rw (kept_written is_that begin i (mapped (booked q.channel q.identifier) q.old) (booked q.channel q.identifier q.serial) b c f xs lb lc, e) t
  tied_written q x b c f (Some o) xs rs ss new new_row lb lc lf e t =
      rw (in_some i b, lb, lc, lf, e.grown)
      (tied_grown (booked q.channel q.identifier q.serial) x (row_of q e.slot) o.cause (is_some o.ended) _ e.between new (new_row e.slot)
      (tied_old q q.old c o.ended xs rs e.between lc e.cut t))
