-- Parts of lists written, one after the other.
use Rattle.std.proofs.Common.{◌≡◌, ℕ, ◌+◌, List, ◌++◌, length, subst, append_assoc, arith, length-append}
use Rattle.elements.specs.declared.writer.Writer.{Writer}
use Rattle.elements.specs.Writes.{Room, Writes}
use Rattle.elements.proofs.Appending.{writes_then}
use Rattle.lists.specs.declared.cell.CellIdentity.{CellIdentity}
use Rattle.lists.specs.Cells.{form_of, cell_octets}
use Rattle.lists.specs.Entries.{Entry, Kind, spell_entry, own_form}

-- an entry: its own form, its name, its tail
pub writes_entry :
    (k : Kind) (e : Entry) (n : CellIdentity) (form : ℕ) (a b c d : Writer) → n ≡ e.cell → form ≡ form_of n → Room (spell_entry k e) a
    → Writes (own_form k.headed form) a b → Writes (cell_octets n) b c → Writes e.tail c d → Writes (spell_entry k e) a d
writes_entry k e n form a b c d q f h x y z =
    let own : List ℕ = own_form k.headed (form_of e.cell) in
    let nm : List ℕ = cell_octets e.cell in
    let x' : Writes own a b = rw (f, q) at x in
    let y' : Writes nm b c = rw q at y in
    let l : length (spell_entry k e) ≡ length own + (length nm + length e.tail) = simp length-append in
    let m : length (own ++ nm) ≡ length own + length nm = length-append own nm in
    subst (λ (t : List ℕ). Writes t a d) (append_assoc own nm e.tail)
    (writes_then (own ++ nm) e.tail a c d (omega arith) (writes_then own nm a b c (omega arith) x' y') z)
