-- What the octets of a reply tell the broadcast centre: what the reply says.
use Rattle.std.proofs.Common.{◌≡◌, Bool, false, cond, leb, List, [], ◌∷◌, length, Some, refl, ap}
use Rattle.std.proofs.lemmas.Bool.{and_parts, leb-true}
use Rattle.answering.specs.Fitting.{Spelt}
use Rattle.answering.specs.Replies.{some_cells, write_reply, kill_reply, query_reply, reset_reply}
use Rattle.answers.specs.Answers.{AnswerV, answer_fits}
use Rattle.book.specs.Book.{stands_after, added, overflowed, is_emptied}
use Rattle.book.specs.Told.{Booked, booked, is_listed, is_in_some, told, told_by, told_of}
use Rattle.book.specs.Told.Told.{silent, ended, written}
use Rattle.cbsp.specs.declared.channel.Channel.{Channel}
use Rattle.cells.specs.declared.cell.Identity.{Identity}
use Rattle.elements.specs.Octets.{mapped}
use Rattle.lists.specs.Entries.{Entry}
use Rattle.messages.proofs.MessageLaws.{read_back}
use Rattle.messages.specs.Messages.{answer, spell}
use Rattle.requests.specs.Requests.{ReferenceV, WriteReplaceV}
use Rattle.law.specs.Calls.{octets_of}

-- a reply that can be spelt tells what it says
pub told_spelt : (a : AnswerV) → Spelt a → told (octets_of (Some a)) ≡ told_by a
told_spelt a s =
    let p = and_parts (answer_fits a) (leb (length (spell (answer a))) 2048) s in
    ap told_of (read_back (answer a) p.0 (leb-true (length (spell (answer a))) 2048 p.1))

-- what each reply says, whether its lists are empty or not
pub told_write :
    (w : WriteReplaceV) (b c f : List Entry)
    → told_by (write_reply w b c f) ≡ written (mapped (booked w.channel w.identifier) w.old_serial) (booked w.channel w.identifier w.new_serial) c (some_cells b) f
told_write w b [] [] = refl
told_write w b [] (f ∷ fs) = refl
told_write w b (c ∷ cs) [] = refl
told_write w b (c ∷ cs) (f ∷ fs) = refl

pub told_kill : (r : ReferenceV) (c f : List Entry) → told_by (kill_reply r c f) ≡ ended (booked r.channel r.identifier r.serial) c
told_kill r [] [] = refl
told_kill r [] (f ∷ fs) = refl
told_kill r (c ∷ cs) [] = refl
told_kill r (c ∷ cs) (f ∷ fs) = refl

pub told_query : (r : ReferenceV) (c f : List Entry) → told_by (query_reply r c f) ≡ silent
told_query r c [] = refl
told_query r c (f ∷ fs) = refl

-- a RESET reply empties the cells of its Cell List, and an absent list has none
pub reset_stands :
    {X : Type 0} (is_that : Booked → X → Bool) (begin : Booked → List X) (i : Identity) (b f : List Entry) (xs : List X)
    → stands_after is_that begin i (told_by (reset_reply b f)) xs ≡ cond (is_listed i b) [] xs
reset_stands is_that begin i b [] xs = refl
reset_stands is_that begin i [] (f ∷ fs) xs = refl
reset_stands is_that begin i (b ∷ bs) (f ∷ fs) xs = refl

pub reset_adds : (i : Identity) (h : Channel) (b f : List Entry) → added i h (told_by (reset_reply b f)) ≡ 0
reset_adds i h b [] = refl
reset_adds i h [] (f ∷ fs) = refl
reset_adds i h (b ∷ bs) (f ∷ fs) = refl

pub reset_spoils :
    (i : Identity) (b f : List Entry) → (is_emptied i (told_by (reset_reply b f)) ≡ is_listed i b) × (overflowed i (told_by (reset_reply b f)) ≡ false)
reset_spoils i b [] = (refl, refl)
reset_spoils i [] (f ∷ fs) = (refl, refl)
reset_spoils i (b ∷ bs) (f ∷ fs) = (refl, refl)

pub in_some : (i : Identity) (b : List Entry) → is_in_some i (some_cells b) ≡ is_listed i b
in_some i [] = refl
in_some i (e ∷ es) = refl
