-- Book, moments and table compare messages alike; and what a query and RESET leave of the rows of a cell.
use Rattle.std.proofs.Common.{◌≡◌, false, cond, eqb, List, [], ◌∷◌, Some, None, Option, sym, refl, ap, ◌∙◌}
use Rattle.std.proofs.lemmas.Bool.{both_ways}
use Rattle.book.specs.Told.{Booked, same_booked}
use Rattle.cbsp.specs.Channels.{channel_code}
use Rattle.cbsp.specs.declared.channel.Channel.{Channel}
use Rattle.cbsp.specs.declared.channel.Channel.TheVariants.{Basic, Extended}
use Rattle.outcomes.specs.Tells.{By, Emptied, Left}
use Rattle.rows.specs.declared.row.Row.{Row}
use Rattle.rows.specs.Keys.{is_same, key_of, same_channel}
use Rattle.table.specs.declared.outcome.Outcome.{Outcome}
use Rattle.law.specs.Law.{booked_of}
use Rattle.law.specs.Standing.{Standing}
use Rattle.law.proofs.Listing.{begins}
use Rattle.law.proofs.Pasts.{Keeps}
use Rattle.law.proofs.Periods.{Is}

-- book and table compare messages alike
same_code : (a b : Channel) → eqb (channel_code a) (channel_code b) ≡ same_channel a b
same_code Basic Basic = refl
same_code Basic Extended = refl
same_code Extended Basic = refl
same_code Extended Extended = refl

same_row : (old : Booked) (r : Row) → same_booked old (booked_of r) ≡ is_same (key_of old.channel old.identifier old.serial) r
same_row old r = rw (same_code r.channel old.channel) refl

pub agrees_book : (old x : Booked) (r : Row) → Is x r → same_booked old x ≡ is_same (key_of old.channel old.identifier old.serial) r
agrees_book old x r h = ap (same_booked old) (sym h) ∙ same_row old r

pub agrees_standing : (old : Booked) (s : Standing) (r : Row) → Keeps s r → same_booked old s.wanted.message ≡ is_same (key_of old.channel old.identifier old.serial) r
agrees_standing old s r h = agrees_book old s.wanted.message r h.message

-- where a message begins in the book, it stands there
abbrev pub newly_booked : Booked → List Booked
newly_booked new = new ∷ []

-- a query leaves the rows of a cell, and RESET those of a cell that it did not name
pub left_rows : (p : Option Outcome) (rs ss : List Row) → By Left p rs ss → ss ≡ rs
left_rows None rs ss e = e
left_rows (Some o) rs ss e = e

pub emptied_rows : (p : Option Outcome) (rs ss : List Row) → By Emptied p rs ss → ss ≡ cond (begins p) [] rs
emptied_rows None rs ss e = e
emptied_rows (Some o) rs ss e = rw e.cause e.rows

pub same_rows : (p : Option Outcome) (rs ss : List Row) → By Emptied p rs ss → begins p ≡ false → ss ≡ rs
same_rows None rs ss e q = e
same_rows (Some o) rs ss e q = absurd (both_ways _ q (rw e.cause refl))
