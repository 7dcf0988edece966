-- Octets, and answers that are a value or a fault.
use Rattle.std.specs.Prelude.{◌≡◌, ℕ, ◌+◌, ◌/◌, ◌%◌, ◌<◌, List, [], ◌∷◌, length, Some, None, Ok, Err, Option, Result, slice_index}
use Rattle.cbsp.specs.Octets.{put}

abbrev pub one : ℕ → List ℕ
one n = n ∷ []

-- a number of two octets, the most significant first
abbrev pub two : ℕ → List ℕ
two n = n / 256 ∷ n % 256 ∷ []

-- a number of three octets
abbrev pub three : ℕ → List ℕ
three n = n / 65536 ∷ n / 256 % 256 ∷ n % 256 ∷ []

-- every number is an octet
abbrev pub Octets : List ℕ → Type 0
Octets os = (k : ℕ) → slice_index os k < 256

-- go on with a value, or keep the fault
abbrev pub then : {A B E : Type 0} → Result A E → (A → Result B E) → Result B E
then (Ok x) f = f x
then (Err e) f = Err e

-- a fault of one layer as a fault of the next
abbrev pub raised : {A E F : Type 0} → (E → F) → Result A E → Result A F
raised g (Ok x) = Ok x
raised g (Err e) = Err (g e)

-- xs was written from a place, nothing else changed, and `next` is the place after it
pub record Wrote (xs : List ℕ) (at : ℕ) (was is : List ℕ) (next : ℕ) : Type 0 where
  pub octets : is ≡ put xs at was
  pub place : next ≡ at + length xs

-- the code's answer is the definition's, where m says what a value means
abbrev pub Told : {X V F : Type 0} → (X → V) → Result X F → Result V F → Type 0
Told m (Ok x) s = s ≡ Ok (m x)
Told m (Err e) s = s ≡ Err e

-- the same of a value and the place after it
abbrev pub Got : {X V F : Type 0} → (X → V) → Result (X × ℕ) F → Result (V × ℕ) F → Type 0
Got m (Ok p) s = s ≡ Ok (m p.0, p.1)
Got m (Err f) s = s ≡ Err f

-- what a value that may be absent means
abbrev pub mapped : {X V : Type 0} → (X → V) → Option X → Option V
mapped m None = None
mapped m (Some x) = Some (m x)
