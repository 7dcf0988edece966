-- A codec: how a value is spelt in octets, which values can be, what may follow them, and how one is read at a place.
use Rattle.std.specs.Prelude.{◌≡◌, ℕ, ◌+◌, ◌≤◌, Bool, true, ◌&&◌, List, [], ◌∷◌, ◌++◌, length, take, Some, None, Ok, Err, Option, Result, ◌≢◌}
use Rattle.cbsp.specs.declared.channel.Channel.{Channel}
use Rattle.cbsp.specs.Channels.{channel_code, channel_of}
use Rattle.elements.specs.declared.faults.ElementFault.{ElementFault}
use Rattle.elements.specs.declared.faults.Fault.{Fault}
use Rattle.elements.specs.Octets.{Octets, then, one, two}
use Rattle.elements.specs.Elements.{find, find_channel, mandatory, possible, within, read_two, read_coded, ranged}

pub record Codec (V : Type 0) : Type 1 where
  pub spell : V → List ℕ
  pub fits : V → Bool
  pub Follow : List ℕ → Type 0
  pub read : List ℕ → ℕ → Result (V × ℕ) Fault

-- what follows an element's identifier. Its reader is told where the element and where its body begins
pub record Body (V : Type 0) : Type 0 where
  pub spell : V → List ℕ
  pub fits : V → Bool
  pub read : List ℕ → ℕ → ℕ → Result (V × ℕ) ElementFault

-- nothing at all
abbrev pub nothing : Codec (Unit {0})
nothing = record { spell = λ _. []; fits = λ _. true; Follow = λ _. Unit {0}; read = λ os at. Ok (tt, at) }

-- one after the other
abbrev pub seq : {A B : Type 0} → Codec A → Codec B → Codec (A × B)
seq {A} {B} a b = record {
  spell = λ v. a.spell v.0 ++ b.spell v.1;
  fits = λ v. a.fits v.0 && b.fits v.1;
  Follow = λ post. b.Follow post × ((w : B) → b.fits w ≡ true → a.Follow (b.spell w ++ post));
  read = λ os at. then (a.read os at) (λ p. then (b.read os p.1) (λ q. Ok ((p.0, q.0), q.1)));
}

-- the same octets for values of another type
abbrev pub turned : {A B : Type 0} → (A → B) → Result (A × ℕ) Fault → Result (B × ℕ) Fault
turned to (Ok p) = Ok (to p.0, p.1)
turned to (Err f) = Err f

abbrev pub via : {A B : Type 0} → (A → B) → (B → A) → Codec A → Codec B
via to from c = record { spell = λ v. c.spell (from v); fits = λ v. c.fits (from v); Follow = c.Follow; read = λ os at. turned to (c.read os at) }

-- an element that must be there
abbrev pub element_by : {V : Type 0} → (List ℕ → ℕ → Result (Option ℕ) ElementFault) → ℕ → Body V → Codec V
element_by found id b = record { spell = λ v. id ∷ b.spell v; fits = b.fits; Follow = λ _. Unit {0}; read = λ os at. mandatory (found os at) at (b.read os at) }

abbrev pub element : {V : Type 0} → ℕ → Body V → Codec V
element id b = element_by (find id) id b

-- an element that may be absent, which what follows has to show: the end, or another identifier
abbrev pub spell_maybe : {V : Type 0} → ℕ → (V → List ℕ) → Option V → List ℕ
spell_maybe id spell None = []
spell_maybe id spell (Some v) = id ∷ spell v

abbrev pub fits_maybe : {V : Type 0} → (V → Bool) → Option V → Bool
fits_maybe fits None = true
fits_maybe fits (Some v) = fits v

abbrev pub Absent : ℕ → List ℕ → Type 0
Absent id [] = Unit {0}
Absent id (x ∷ xs) = (x ≢ id) × (1 ≤ x) × (x ≤ 24)

abbrev pub optional : {V : Type 0} → ℕ → Body V → Codec (Option V)
optional id b = record { spell = spell_maybe id b.spell; fits = fits_maybe b.fits; Follow = Absent id; read = λ os at. possible (find id os at) at (b.read os at) }

-- bodies: a number of two octets, a value of one octet, an octet in a range
abbrev pub number_body : ℕ → ℕ → Body ℕ
number_body lo hi = record { spell = two; fits = within lo hi; read = read_two lo hi }

abbrev pub coded_body : {V : Type 0} → (V → ℕ) → (ℕ → Option V) → Body V
coded_body encode decode = record { spell = λ v. one (encode v); fits = λ _. true; read = read_coded decode }

abbrev pub octet_body : ℕ → ℕ → Body ℕ
octet_body lo hi = record { spell = one; fits = within lo hi; read = read_coded (ranged lo hi) }

-- a Channel Indicator that must be there
abbrev pub channel : Codec Channel
channel = element_by find_channel 18 (coded_body channel_code channel_of)

-- what is read, spelt, is what stood there; what is spelt is read
pub record Lawful {V : Type 0} (c : Codec V) : Type 0 where
  pub forth : (os : List ℕ) (at : ℕ) (v : V) (next : ℕ) → Octets os → at ≤ length os → c.read os at ≡ Ok (v, next)
      → (take next os ≡ take at os ++ c.spell v) × (next ≤ length os) × (c.fits v ≡ true)
  pub back : (pre post : List ℕ) (v : V) → c.fits v ≡ true → c.Follow post
      → c.read (pre ++ (c.spell v ++ post)) (length pre) ≡ Ok (v, length pre + length (c.spell v))

-- the same of what follows an identifier
pub record BodyLaws {V : Type 0} (b : Body V) : Type 0 where
  pub body_forth : (os : List ℕ) (at body : ℕ) (v : V) (next : ℕ) → Octets os → body ≤ length os → b.read os at body ≡ Ok (v, next)
      → (take next os ≡ take body os ++ b.spell v) × (next ≤ length os) × (b.fits v ≡ true)
  pub body_back : (pre post : List ℕ) (at : ℕ) (v : V) → b.fits v ≡ true
      → b.read (pre ++ (b.spell v ++ post)) at (length pre) ≡ Ok (v, length pre + length (b.spell v))
