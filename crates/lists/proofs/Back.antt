-- What is spelt is read.
use Rattle.std.proofs.Common.{◌≡◌, ℕ, zero, suc, ◌+◌, ◌<◌, ◌≤◌, Bool, true, false, cond, List, [], ◌∷◌, ◌++◌, length, take, drop, Some, None, Ok, Err, Option, Result, sym, refl, ap, ◌∙◌, subst, append_assoc, append-nil, arith, length-append}
use Rattle.std.proofs.lemmas.Bool.{le-leb, eqb-true, and_parts, cond-true}
use Rattle.std.proofs.lemmas.List.{get_or_at, take_at, drop_at}
use Rattle.elements.specs.declared.faults.EntryFault.{EntryFault}
use Rattle.elements.specs.Octets.{two, then}
use Rattle.elements.proofs.Standing.{two_here, two_later}
use Rattle.lists.specs.declared.cell.CellIdentity.{CellIdentity}
use Rattle.lists.specs.declared.cell.CellIdentity.TheVariants as cell
use Rattle.lists.specs.Cells.{form_of, cell_octets, read_cell}
use Rattle.lists.specs.Entries.{Entry, Kind, spell_entry, spell_entries, read_tail, checked, read_entry, read_entries, form_at, own_form, before, formed, unflawed}
use Rattle.lists.specs.Laws.{EntryFits, SpeltThenRead}
use Rattle.lists.proofs.Steps.{done, more}

cell_back :
    (broken : EntryFault) (end : ℕ) (n : CellIdentity) (pre post : List ℕ) → length pre + length (cell_octets n) ≤ end
    → read_cell broken (form_of n) end (pre ++ (cell_octets n ++ post)) (length pre) ≡ Ok (n, length pre + length (cell_octets n))
cell_back broken end (cell.LacCi a b) pre post h =
    rw (le-leb (length pre + 4) end h, two_here pre a (two b ++ post), two_later pre a b post)
cell_back broken end (cell.Ci b) pre post h = rw (le-leb (length pre + 2) end h, two_here pre b post)
cell_back broken end (cell.Lac a) pre post h = rw (le-leb (length pre + 2) end h, two_here pre a post)
cell_back broken end cell.All pre post h = rw (le-leb (length pre + 1) end h, get_or_at pre 0 post 0 (length pre) refl)

-- the octets after the identity
checked_none : (o : Option ℕ) (e : Entry) (at next : ℕ) → unflawed o ≡ true → checked o e at next ≡ Ok (e, next)
checked_none None e at next u = refl
checked_none (Some i) e at next u = let z : ◌≡◌ {A = ℕ} 0 1 = cc in absurd (omega arith)

tail_back :
    (k : Kind) (broken : EntryFault) (end : ℕ) (e : Entry) (pre post : List ℕ) → length e.tail ≡ k.tail → unflawed (k.flaw e.tail) ≡ true
    → length pre + k.tail ≤ end → read_tail k broken end (pre ++ (e.tail ++ post)) (e.cell, length pre) ≡ Ok (e, length pre + k.tail)
tail_back k broken end e pre post l s h =
    let d : drop (length pre) (pre ++ (e.tail ++ post)) ≡ e.tail ++ post = drop_at pre (e.tail ++ post) (length pre) refl in
    let t : take k.tail (e.tail ++ post) ≡ e.tail = take_at e.tail post k.tail l in
    rw (le-leb (length pre + k.tail) end h, d, t) (checked_none (k.flaw e.tail) e (length pre) (length pre + k.tail) s)

form_back :
    (b : Bool) (h d : ℕ) (pre ys : List ℕ) → formed b h d ≡ true
    → form_at b h (pre ++ (own_form b d ++ ys)) (length pre) ≡ (d, length (pre ++ own_form b d))
form_back true h d pre ys f = rw (append-nil, eqb-true d h f)
form_back false h d pre ys f = rw (get_or_at pre d ys 0 (length pre) refl, length-append)

entry_steps :
    (k : Kind) (broken : EntryFault) (h end : ℕ) (os : List ℕ) (at mid next last : ℕ) (e : Entry) → form_at k.headed h os at ≡ (form_of e.cell, mid)
    → k.forms (form_of e.cell) ≡ true → read_cell broken (form_of e.cell) end os mid ≡ Ok (e.cell, next) → read_tail k broken end os (e.cell, next) ≡ Ok (e, last)
    → read_entry k broken h end os at ≡ Ok (e, last)
entry_steps k broken h end os at mid next last e f s n t =
    ap (λ (d : ℕ × ℕ). cond (k.forms d.0) (then (read_cell broken d.0 end os d.1) (read_tail k broken end os)) (Err (record { place = at }))) f
    ∙ cond-true _ _ _ s ∙ ap (λ (r : Result (CellIdentity × ℕ) EntryFault). then r (read_tail k broken end os)) n ∙ t

-- what an entry that fits has
pub record Fit (k : Kind) (h : ℕ) (e : Entry) : Type 0 where
  pub has_form : formed k.headed h (form_of e.cell) ≡ true
  pub may_form : k.forms (form_of e.cell) ≡ true
  pub width : length e.tail ≡ k.tail
  pub sound : unflawed (k.flaw e.tail) ≡ true

pub fit : (k : Kind) (h : ℕ) (e : Entry) → EntryFits k h e → Fit k h e
fit k h e f =
    let a = and_parts _ _ f in
    let b = and_parts _ _ a.1 in
    let d = and_parts _ _ b.1 in
    record { has_form = a.0; may_form = b.0; width = eqb-true _ _ d.0; sound = d.1 }

entry_back :
    (k : Kind) (broken : EntryFault) (h end : ℕ) (e : Entry) (pre post : List ℕ) → Fit k h e → length pre + length (spell_entry k e) ≤ end
    → read_entry k broken h end (pre ++ (spell_entry k e ++ post)) (length pre) ≡ Ok (e, length pre + length (spell_entry k e))
entry_back k broken h end e pre post f l =
    let own : List ℕ = own_form k.headed (form_of e.cell) in
    let nm : List ℕ = cell_octets e.cell in
    let tl : List ℕ = e.tail in
    let os : List ℕ = pre ++ (spell_entry k e ++ post) in
    let front : List ℕ = pre ++ own in
    let a : pre ++ (own ++ (nm ++ (tl ++ post))) ≡ os = simp append_assoc in
    let b : front ++ (nm ++ (tl ++ post)) ≡ os = simp append_assoc in
    let c : (front ++ nm) ++ (tl ++ post) ≡ os = simp append_assoc in
    let x : length front ≡ length pre + length own = length-append pre own in
    let y : length (front ++ nm) ≡ length front + length nm = length-append front nm in
    let z : length (spell_entry k e) ≡ length own + (length nm + length tl) = simp length-append in
    let t : length tl ≡ k.tail = f.width in
    let w : length (front ++ nm) + k.tail ≡ length pre + length (spell_entry k e) = omega arith in
    let p : form_at k.headed h os (length pre) ≡ (form_of e.cell, length front)
    = subst (λ (q : List ℕ). form_at k.headed h q (length pre) ≡ (form_of e.cell, length front)) a (form_back k.headed h (form_of e.cell) pre (nm ++ (tl ++ post)) f.has_form) in
    let n : read_cell broken (form_of e.cell) end os (length front) ≡ Ok (e.cell, length front + length nm)
    = subst (λ (q : List ℕ). read_cell broken (form_of e.cell) end q (length front) ≡ Ok (e.cell, length front + length nm)) b (cell_back broken end e.cell front (tl ++ post) (omega arith)) in
    let r : read_tail k broken end os (e.cell, length (front ++ nm)) ≡ Ok (e, length (front ++ nm) + k.tail)
    = subst (λ (q : List ℕ). read_tail k broken end q (e.cell, length (front ++ nm)) ≡ Ok (e, length (front ++ nm) + k.tail)) c (tail_back k broken end e (front ++ nm) post f.width f.sound (omega arith)) in
    entry_steps k broken h end os (length pre) (length front) (length (front ++ nm)) _ e p f.may_form
    (n ∙ ap (λ (i : ℕ). Ok (e.cell, i)) (sym y)) (r ∙ ap (λ (i : ℕ). Ok (e, i)) w)

-- an entry has octets
cell_some : (n : CellIdentity) → 0 < length (cell_octets n)
cell_some (cell.LacCi a b) = omega arith
cell_some (cell.Ci b) = omega arith
cell_some (cell.Lac a) = omega arith
cell_some cell.All = omega arith

pub entry_some : (k : Kind) (e : Entry) → 0 < length (spell_entry k e)
entry_some k e =
    let n = cell_some e.cell in
    let z : length (spell_entry k e) ≡ length (own_form k.headed (form_of e.cell)) + (length (cell_octets e.cell) + length e.tail) = simp length-append in
    omega arith

pub entries_back : SpeltThenRead
entries_back k broken h pre post room [] l f = done k broken h (length pre + 0) (pre ++ post) room (length pre) (omega arith)
entries_back k broken h pre post zero (e ∷ es) l f = absurd (omega arith)
entries_back k broken h pre post (suc room) (e ∷ es) l f =
    let x : List ℕ = spell_entry k e in
    let xs : List ℕ = spell_entries k es in
    let end : ℕ = length pre + length (x ++ xs) in
    let os : List ℕ = pre ++ ((x ++ xs) ++ post) in
    let s = entry_some k e in
    let y : length (x ++ xs) ≡ length x + length xs = length-append x xs in
    let u : length (pre ++ x) ≡ length pre + length x = length-append pre x in
    let a : pre ++ (x ++ (xs ++ post)) ≡ os = simp append_assoc in
    let b : (pre ++ x) ++ (xs ++ post) ≡ os = simp append_assoc in
    let v : length (pre ++ x) + length xs ≡ end = omega arith in
    let first : read_entry k broken h end os (length pre) ≡ Ok (e, length pre + length x)
    = subst (λ (q : List ℕ). read_entry k broken h end q (length pre) ≡ Ok (e, length pre + length x)) a (entry_back k broken h end e pre (xs ++ post) (fit k h e f.0) (omega arith)) in
    let rest : read_entries k broken h end os room (length pre + length x) ≡ Ok es
    = subst (λ (i : ℕ). read_entries k broken h end os room i ≡ Ok es) u
    (subst (λ (q : List ℕ). read_entries k broken h end q room (length (pre ++ x)) ≡ Ok es) b
    (subst (λ (i : ℕ). read_entries k broken h i ((pre ++ x) ++ (xs ++ post)) room (length (pre ++ x)) ≡ Ok es) v
    (entries_back k broken h (pre ++ x) post room es (omega arith) f.1))) in
    more k broken h end os room (length pre) (length pre + length x) e (omega arith) first ∙ ap (before e) rest
