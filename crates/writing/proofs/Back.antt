-- A message that is written reads back.
use Rattle.std.proofs.Common.{◌≡◌, ℕ, zero, suc, ◌+◌, true, leb, List, [], ◌∷◌, ◌++◌, length, take, drop, Ok, Err, Result, IfOk, ap, ◌∙◌, subst, arith}
use Rattle.std.proofs.lemmas.Bool.{and_parts, leb-true}
use Rattle.std.proofs.lemmas.List.{take_at}
use Rattle.elements.specs.Octets.{Octets, Wrote}
use Rattle.messages.specs.Messages.{MessageV, spell, fits, InRange, read_message}
use Rattle.messages.proofs.MessageLaws.{round_trip}
use Rattle.writing.specs.Writing.{Written, spellable}
use Rattle.writing.specs.declared.unwritten.Unwritten.{Unwritten}

octets_left : (xs ys : List ℕ) → Octets (xs ++ ys) → Octets xs
octets_left [] ys o k = omega arith
octets_left (x ∷ xs) ys o zero = o 0
octets_left (x ∷ xs) ys o (suc k) = octets_left xs ys (λ (i : ℕ). o (suc i)) k

pub reads_back : (m : MessageV) (was is : List ℕ) (n : ℕ) → Octets is → spellable m ≡ true → Wrote (spell m) 0 was is n → read_message (take n is) ≡ Ok m
reads_back m was is n o s w =
    let b = and_parts (fits m) (leb (length (spell m)) 2048) s in
    let rest : List ℕ = drop (0 + length (spell m)) was in
    let e : is ≡ spell m ++ rest = w.octets in
    let p : length (spell m) ≡ n = omega (arith, w.place) in
    let i : InRange m = record { fit = b.0; octets = octets_left (spell m) rest (subst Octets e o); short = leb-true (length (spell m)) 2048 b.1 } in
    ap (λ (xs : List ℕ). read_message (take n xs)) e ∙ ap read_message (take_at (spell m) rest n p) ∙ round_trip.1 m i

pub reads_back_from : (m : MessageV) (was is : List ℕ) (r : Result ℕ Unwritten) → Octets is → Written m was is r → IfOk r (λ n. read_message (take n is) ≡ Ok m)
reads_back_from m was is (Ok n) o w = reads_back m was is n o w.0 w.1
reads_back_from m was is (Err e) o w = tt
