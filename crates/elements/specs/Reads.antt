-- What a reader gives, and where it then stands.
use Rattle.std.specs.Prelude.{◌≡◌, ℕ, cond, List, length, Ok, Err, Result, nat_lt, slice_index}
use Rattle.elements.specs.declared.faults.ElementFault.{ElementFault}
use Rattle.elements.specs.declared.faults.ElementFault.TheVariants.{RunsPast}
use Rattle.elements.specs.declared.reader.Reader.{Reader}

-- the answer is the definition's, where m says what a value means, the reader has the octets that it had, and stands behind what was read
abbrev pub Reads : {X V F : Type 0} → (X → V) → Reader → Result X F → Reader → Result (V × ℕ) F → Type 0
Reads m was (Ok x) is s = (s ≡ Ok (m x, is.at)) × (is.octets ≡ was.octets)
Reads m was (Err e) is s = (s ≡ Err e) × (is.octets ≡ was.octets)

-- the octet at a place, of an element that begins at `start`
abbrev pub octet_at : ℕ → List ℕ → ℕ → Result ℕ ElementFault
octet_at start os at = cond (nat_lt at (length os)) (Ok (slice_index os at)) (Err (RunsPast start))
