-- Values that fit and have at most so many octets, put together as codecs are.
use Rattle.std.proofs.Common.{◌≡◌, ℕ, ◌+◌, ◌≤◌, true, length, Some, None, Option, refl, arith, length-append}
use Rattle.std.proofs.lemmas.Bool.{and_from, le-leb}
use Rattle.answers.specs.Answers.{AnswerV, answer_fits, spell_answer}
use Rattle.elements.specs.Codec.{Body, Codec, coded_body, element, fits_maybe, optional, seq}
use Rattle.elements.specs.Elements.{within}
use Rattle.elements.specs.Parts.{may_number, number}
use Rattle.messages.specs.Messages.{answer, spell}
use Rattle.answering.specs.Fitting.{Spelt}

pub record Room {V : Type 0} (c : Codec V) (v : V) (n : ℕ) : Type 0 where
  pub fit : c.fits v ≡ true
  pub wide : length (c.spell v) ≤ n

-- one after the other
pub room_seq : {A B : Type 0} {a : Codec A} {b : Codec B} {x : A} {y : B} {m n : ℕ} → Room a x m → Room b y n → Room (seq a b) (x, y) (m + n)
room_seq {a = a} {b = b} {x = x} {y = y} r s = record {
  fit = and_from (a.fits x) (b.fits y) r.fit s.fit;
  wide = omega (arith, length-append (a.spell x) (b.spell y), r.wide, s.wide);
}

-- an element that may be absent
module _ {V : Type 0} (id : ℕ) (b : Body V) where
  pub room_none : (n : ℕ) → Room (optional id b) None n
  room_none n = record { fit = refl; wide = omega arith }

  pub room_some : {v : V} {n : ℕ} → Room (element id b) v n → Room (optional id b) (Some v) n
  room_some r = record { fit = r.fit; wide = r.wide }

-- a number, and one that may be absent
pub room_number : (id n : ℕ) → within 0 65535 n ≡ true → Room (number id) n 3
room_number id n f = record { fit = f; wide = omega arith }

pub room_may_number : (id : ℕ) (o : Option ℕ) → fits_maybe (within 0 65535) o ≡ true → Room (may_number id) o 3
room_may_number id None f = record { fit = f; wide = omega arith }
room_may_number id (Some n) f = record { fit = f; wide = omega arith }

-- a value of one octet
pub room_code : {V : Type 0} (id : ℕ) (encode : V → ℕ) (decode : ℕ → Option V) (v : V) → Room (element id (coded_body encode decode)) v 2
room_code id encode decode v = record { fit = refl; wide = omega arith }

-- an answer whose elements have at most 2,044 octets can be spelt: the header has four
pub spelt_from : (a : AnswerV) → answer_fits a ≡ true → length (spell_answer a) ≤ 2044 → Spelt a
spelt_from a f l = and_from (answer_fits a) _ f (le-leb (length (spell (answer a))) 2048 (omega arith))
