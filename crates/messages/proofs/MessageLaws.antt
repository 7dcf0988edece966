-- The laws of every message, header included.
use Rattle.std.proofs.Common.{◌≡◌, ℕ, ◌+◌, ◌*◌, ◌/◌, ◌%◌, ◌<◌, ◌≤◌, true, false, eqb, ltb, List, [], ◌∷◌, ◌++◌, length, get_or, take, IfOk, Some, Ok, Err, Result, sym, refl, ap, ◌∙◌, subst, inl, inr, arith}
use Rattle.std.proofs.lemmas.Bool.{ltb-false, eqb-true, le-ltb, eq-eqb, cond-true, cond-false}
use Rattle.cbsp.specs.declared.message_type.MessageType.{MessageType}
use Rattle.cbsp.specs.declared.message_type.MessageType.TheVariants as type
use Rattle.cbsp.specs.declared.refusal.Refusal.{Refusal}
use Rattle.cbsp.specs.Framing.{announced}
use Rattle.cbsp.specs.Types.{type_code, type_of}
use Rattle.elements.specs.Octets.{Octets, Told, then, raised, three}
use Rattle.elements.specs.Whole.{headed, taken}
use Rattle.elements.proofs.Whole.{taken_ok}
use Rattle.elements.proofs.Standing.{cond_was, then_ok, not_ok, raised_ok, when_ok}
use Rattle.elements.proofs.Codings.{step, last}
use Rattle.requests.specs.Requests.{RequestV, read_request, request_type, request_fits, spell_request}
use Rattle.requests.specs.Requests as ask
use Rattle.requests.proofs.RequestLaws.{requests_round_trip}
use Rattle.answers.specs.Answers.{AnswerV, read_answer, answer_type, answer_fits, spell_answer}
use Rattle.answers.specs.Answers as tell
use Rattle.answers.proofs.AnswerLaws.{answers_round_trip}
use Rattle.messages.specs.declared.message.Message.{Message}
use Rattle.messages.specs.declared.message.Unread.{Unread}
use Rattle.messages.specs.declared.message.Unread.TheVariants.{Refused, Faulty}
use Rattle.messages.specs.Messages.{MessageV, message_meant, request, answer, message_type, spell_elements, spell, fits, InRange, asks, read_framed, whole_message, read_message, RoundTrip}

type_there : (o : ℕ) (v : MessageType) → type_of o ≡ Some v → type_code v ≡ o
type_there o v e =
    step type_code type.WriteReplace o 1 _ v refl e (λ e.
    step type_code type.WriteReplaceComplete o 2 _ v refl e (λ e.
    step type_code type.WriteReplaceFailure o 3 _ v refl e (λ e.
    step type_code type.Kill o 4 _ v refl e (λ e.
    step type_code type.KillComplete o 5 _ v refl e (λ e.
    step type_code type.KillFailure o 6 _ v refl e (λ e.
    step type_code type.LoadQuery o 7 _ v refl e (λ e.
    step type_code type.LoadQueryComplete o 8 _ v refl e (λ e.
    step type_code type.LoadQueryFailure o 9 _ v refl e (λ e.
    step type_code type.MessageStatusQuery o 10 _ v refl e (λ e.
    step type_code type.MessageStatusQueryComplete o 11 _ v refl e (λ e.
    step type_code type.MessageStatusQueryFailure o 12 _ v refl e (λ e.
    step type_code type.SetDrx o 13 _ v refl e (λ e.
    step type_code type.SetDrxComplete o 14 _ v refl e (λ e.
    step type_code type.SetDrxFailure o 15 _ v refl e (λ e.
    step type_code type.Reset o 16 _ v refl e (λ e.
    step type_code type.ResetComplete o 17 _ v refl e (λ e.
    step type_code type.ResetFailure o 18 _ v refl e (λ e.
    step type_code type.Restart o 19 _ v refl e (λ e.
    step type_code type.Failure o 20 _ v refl e (λ e.
    step type_code type.ErrorIndication o 21 _ v refl e (λ e.
    step type_code type.KeepAlive o 22 _ v refl e (λ e.
    step type_code type.KeepAliveComplete o 23 _ v refl e (λ e.
    last type_code o v e)))))))))))))))))))))))

-- a number of three octets
three_octets : (a b c n : ℕ) → b < 256 → c < 256 → n ≡ a * 65536 + b * 256 + c → three n ≡ a ∷ b ∷ c ∷ []
three_octets a b c n h l e =
    let p : n / 65536 ≡ a = omega arith in
    let q : n / 256 % 256 ≡ b = omega arith in
    let r : n % 256 ≡ c = omega arith in
    cc

three_back : (n : ℕ) → n / 65536 * 65536 + n / 256 % 256 * 256 + n % 256 ≡ n
three_back n = omega arith

-- the header of a message whose elements spell xs
header_was :
    (t : MessageType) (os xs : List ℕ) → Octets os → 4 ≤ length os → announced os ≡ length os → type_of (get_or os 0 0) ≡ Some t → os ≡ take 4 os ++ xs
    → os ≡ headed (type_code t) xs
header_was t [] xs o h n k s = absurd (omega arith)
header_was t (a ∷ []) xs o h n k s = absurd (omega arith)
header_was t (a ∷ b ∷ []) xs o h n k s = absurd (omega arith)
header_was t (a ∷ b ∷ c ∷ []) xs o h n k s = absurd (omega arith)
header_was t (a ∷ b ∷ c ∷ d ∷ rest) xs o h n k s =
    let e : rest ≡ xs = cc in
    let l : length rest ≡ length xs = ap length e in
    let m : three (length xs) ≡ b ∷ c ∷ d ∷ [] = three_octets b c d (length xs) (o 2) (o 3) (omega arith) in
    s ∙ ap (λ (x : ℕ). x ∷ (b ∷ c ∷ d ∷ xs)) (sym (type_there a t k)) ∙ ap (λ (ys : List ℕ). type_code t ∷ (ys ++ xs)) (sym m)

whole_was : (os : List ℕ) → whole_message os ≡ Ok tt → (length os ≤ 2048) × (4 ≤ length os) × (announced os ≡ length os)
whole_was os e =
    elim (cond_was (ltb 2048 (length os)) _ _ _ e) [
      | inl p ↦ absurd (not_ok _ _ p.1)
      | inr p ↦ elim (cond_was (ltb (length os) 4) _ _ _ p.1) [
        | inl q ↦ absurd (not_ok _ _ q.1)
        | inr q ↦ let w = when_ok (eqb (announced os) (length os)) _ _ _ q.1 in
            (ltb-false _ _ p.0, ltb-false _ _ q.0, eqb-true _ _ w.0)
      ]
    ]

-- what a framed message keeps
abbrev Kept : List ℕ → MessageV → Type 0
Kept os m = (os ≡ take 4 os ++ spell_elements m) × (fits m ≡ true) × (type_of (get_or os 0 0) ≡ Some (message_type m))

framed_forth : (os : List ℕ) (m : MessageV) → Octets os → 4 ≤ length os → read_framed os ≡ Ok m → Kept os m
framed_forth os m o h e =
    elim (cond_was (asks (type_of (get_or os 0 0))) _ _ _ e) [
      | inl p ↦ let a = taken_ok request (read_request os) m p.1 in subst (Kept os) a.2 (requests_round_trip.0 os a.0 o h a.1)
      | inr p ↦ let a = taken_ok answer (read_answer os) m p.1 in subst (Kept os) a.2 (answers_round_trip.0 os a.0 o h a.1)
    ]

message_forth : (os : List ℕ) (m : MessageV) → Octets os → read_message os ≡ Ok m → (os ≡ spell m) × InRange m
message_forth os m o e =
    let t = then_ok (raised Refused (whole_message os)) (λ _. raised Faulty (read_framed os)) m e in
    let w = whole_was os (raised_ok Refused (whole_message os) tt t.1) in
    let k = framed_forth os m o w.1 (raised_ok Faulty (read_framed os) m t.2) in
    let s : os ≡ spell m = header_was (message_type m) os (spell_elements m) o w.1 w.2 k.2 k.0 in
    (s, record { fit = k.1; octets = subst Octets s o; short = subst (λ (x : List ℕ). length x ≤ 2048) s w.0 })

request_asks : (r : RequestV) → asks (type_of (type_code (request_type r))) ≡ true
request_asks (ask.write_replace v) = refl
request_asks (ask.kill v) = refl
request_asks (ask.status_query v) = refl
request_asks (ask.reset v) = refl
request_asks (ask.keep_alive v) = refl

answer_tells : (a : AnswerV) → asks (type_of (type_code (answer_type a))) ≡ false
answer_tells (tell.write_complete v) = refl
answer_tells (tell.write_failure v) = refl
answer_tells (tell.kill_complete v) = refl
answer_tells (tell.kill_failure v) = refl
answer_tells (tell.status_complete v) = refl
answer_tells (tell.status_failure v) = refl
answer_tells (tell.reset_complete v) = refl
answer_tells (tell.reset_failure v) = refl
answer_tells (tell.restart v) = refl
answer_tells (tell.failure v) = refl
answer_tells (tell.error v) = refl
answer_tells (tell.keep_alive_complete v) = refl

framed_back : (m : MessageV) → fits m ≡ true → read_framed (spell m) ≡ Ok m
framed_back (request r) f = cond-true _ _ _ (request_asks r) ∙ ap (taken request) (requests_round_trip.1 r f)
framed_back (answer a) f = cond-false _ _ _ (answer_tells a) ∙ ap (taken answer) (answers_round_trip.1 a f)

whole_back : (t : ℕ) (xs : List ℕ) → length (headed t xs) ≤ 2048 → whole_message (headed t xs) ≡ Ok tt
whole_back t xs h =
    let n : length (headed t xs) ≡ 4 + length xs = omega arith in
    let a : announced (headed t xs) ≡ length (headed t xs) = omega (arith, three_back (length xs)) in
    rw (le-ltb 2048 (length (headed t xs)) h, le-ltb (length (headed t xs)) 4 (omega arith), eq-eqb (announced (headed t xs)) (length (headed t xs)) a)

-- a message in range is read back
pub read_back : (m : MessageV) → fits m ≡ true → length (spell m) ≤ 2048 → read_message (spell m) ≡ Ok m
read_back m f h =
    ap (λ (r : Result (Unit {0}) Refusal). then (raised Refused r) (λ _. raised Faulty (read_framed (spell m)))) (whole_back (type_code (message_type m)) (spell_elements m) h)
    ∙ ap (raised Faulty) (framed_back m f)

pub round_trip : RoundTrip
round_trip = (message_forth, λ m i. read_back m i.fit i.short)

pub spelt_from :
    (os : List ℕ) (r : Result Message Unread) → Octets os → Told message_meant r (read_message os) → IfOk r (λ m. (os ≡ spell (message_meant m)) × InRange (message_meant m))
spelt_from os (Ok m) o t = message_forth os (message_meant m) o t
spelt_from os (Err e) o t = tt
