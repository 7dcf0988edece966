-- Whole messages.
use Rattle.std.proofs.Common.{◌≡◌, ℕ, ◌+◌, ◌≤◌, Bool, true, ltb, List, [], ◌∷◌, ◌++◌, length, take, Some, Ok, Err, Option, Result, sym, refl, ap, ◌∙◌, subst, inl, inr, append-nil, arith, length-append}
use Rattle.std.proofs.lemmas.Bool.{ltb-false, le-ltb}
use Rattle.std.proofs.lemmas.List.{take_all}
use Rattle.cbsp.specs.declared.message_type.MessageType.{MessageType}
use Rattle.elements.specs.declared.faults.Fault.{Fault}
use Rattle.elements.specs.Octets.{Octets, then, three}
use Rattle.elements.specs.Codec.{Codec, Lawful}
use Rattle.elements.specs.Whole.{read_whole, headed, ended, taken}
use Rattle.elements.proofs.Standing.{cond_was, then_ok, same_ok, not_ok}

pub whole_forth :
    {V : Type 0} (c : Codec V) → Lawful c → (os : List ℕ) (v : V) → Octets os → 4 ≤ length os → read_whole c os ≡ Ok v
    → (os ≡ take 4 os ++ c.spell v) × (c.fits v ≡ true)
whole_forth {V} c l os v o h e =
    let t = then_ok (c.read os 4) (ended os) v e in
    let f = l.forth os 4 t.0.0 t.0.1 o h t.1 in
    elim (cond_was (ltb t.0.1 (length os)) _ _ _ t.2) [
      | inl p ↦ absurd (not_ok _ _ p.1)
      | inr p ↦ let P : V → Type 0 = λ x. (os ≡ take 4 os ++ c.spell x) × (c.fits x ≡ true) in
          subst P (same_ok _ _ p.1) (sym (take_all t.0.1 os (ltb-false _ _ p.0)) ∙ f.0, f.2)
    ]

pub whole_back :
    {V : Type 0} (t : ℕ) (c : Codec V) → Lawful c → c.Follow [] → (v : V) → c.fits v ≡ true → read_whole c (headed t (c.spell v)) ≡ Ok v
whole_back {V} t c l w v f =
    let n : ℕ = length (c.spell v) in
    let head : List ℕ = t ∷ three n in
    let os : List ℕ = headed t (c.spell v) in
    let e : head ++ (c.spell v ++ []) ≡ os = ap (λ (x : List ℕ). head ++ x) (append-nil (c.spell v)) in
    let r : c.read os 4 ≡ Ok (v, 4 + n) = subst (λ (q : List ℕ). c.read q 4 ≡ Ok (v, 4 + n)) e (l.back head [] v f w) in
    let s : length os ≤ 4 + n = omega (arith, length-append head (c.spell v)) in
    ap (λ (x : Result (V × ℕ) Fault). then x (ended os)) r ∙ rw (le-ltb (4 + n) (length os) s)

-- one kind of message among others
pub taken_ok : {V W : Type 0} (make : V → W) (r : Result V Fault) (m : W) → taken make r ≡ Ok m → (v : V) × (r ≡ Ok v) × (make v ≡ m)
taken_ok make (Ok v) m e = (v, refl, same_ok _ _ e)
taken_ok make (Err f) m e = absurd (not_ok _ _ e)

-- what holds of a message that was read by its type t
pub record Kept {W : Type 0} (spell : W → List ℕ) (fits : W → Bool) (type : W → MessageType) (t : Option MessageType) (os : List ℕ) (m : W) : Type 0 where
  pub spelt : os ≡ take 4 os ++ spell m
  pub fit : fits m ≡ true
  pub typed : t ≡ Some (type m)

pub kind_forth :
    {V W : Type 0} (spell : W → List ℕ) (fits : W → Bool) (type : W → MessageType) (t : MessageType) (c : Codec V) (make : V → W) → Lawful c
    → ((v : V) → spell (make v) ≡ c.spell v) → ((v : V) → fits (make v) ≡ c.fits v) → ((v : V) → type (make v) ≡ t) → (os : List ℕ) (m : W) → Octets os
    → 4 ≤ length os → taken make (read_whole c os) ≡ Ok m → Kept spell fits type (Some t) os m
kind_forth spell fits type t c make laws s f k os m o h e =
    let a = taken_ok make (read_whole c os) m e in
    let x = whole_forth c laws os a.0 o h a.1 in
    subst (Kept spell fits type (Some t) os) a.2
    (record { spelt = x.0 ∙ ap (λ (y : List ℕ). take 4 os ++ y) (sym (s a.0)); fit = f a.0 ∙ x.1; typed = ap Some (sym (k a.0)) })

pub kind_back :
    {V W : Type 0} (t : ℕ) (c : Codec V) (make : V → W) → Lawful c → c.Follow [] → (v : V) → c.fits v ≡ true → taken make (read_whole c (headed t (c.spell v))) ≡ Ok (make v)
kind_back t c make laws w v f = ap (taken make) (whole_back t c laws w v f)
