-- One step of the reading of entries.
use Rattle.std.proofs.Common.{◌≡◌, ℕ, zero, suc, ◌+◌, ◌-◌, ◌<◌, ◌≤◌, List, [], ◌∷◌, ◌++◌, length, take, drop, Some, None, Ok, Err, Result, sym, refl, ap, ◌∙◌, append_assoc, append-nil, arith}
use Rattle.std.proofs.lemmas.Bool.{lt-ltb, le-ltb, le-leb, cond-true}
use Rattle.elements.specs.declared.faults.EntryFault.{EntryFault}
use Rattle.std.specs.Result.{MatchResult}
use Rattle.elements.specs.declared.reader.Reader.{Reader}
use Rattle.elements.specs.Reads.{Reads}
use Rattle.elements.specs.Octets.{then}
use Rattle.elements.proofs.Standing.{when_ok, same_ok, not_ok}
use Rattle.lists.specs.declared.cell.CellIdentity.{CellIdentity}
use Rattle.lists.specs.declared.entry.Flaw.{Flaw}
use Rattle.lists.specs.Cells.{read_cell}
use Rattle.lists.specs.Entries.{Entry, Kind, checked, form_at, read_form, read_tail, read_entry, read_entries, before, prefixed}

-- an entry, by its discriminator, its identity and what follows that
pub entry_read :
    (k : Kind) (broken : EntryFault) (h end : ℕ) (os : List ℕ) (at form mid : ℕ) (n : CellIdentity) (next : ℕ) → read_form k h os at ≡ Ok (form, mid)
    → read_cell broken form end os mid ≡ Ok (n, next) → read_entry k broken h end os at ≡ read_tail k broken end os (n, next)
entry_read k broken h end os at form mid n next f c =
    let w = when_ok (k.forms (form_at k.headed h os at).0) _ _ _ f in
    let p : form_at k.headed h os at ≡ (form, mid) = same_ok _ _ w.1 in
    cond-true _ _ _ w.0
    ∙ ap (λ (d : ℕ × ℕ). then (read_cell broken d.0 end os d.1) (read_tail k broken end os)) p
    ∙ ap (λ (r : Result (CellIdentity × ℕ) EntryFault). then r (read_tail k broken end os)) c

-- the same, as code comes to it: with the octets of three moments, and with as many octets after the identity as its constant says
module _
    (k : Kind) (broken : EntryFault) (h : ℕ) (os o₁ o₂ : List ℕ) (at form mid : ℕ) (n : CellIdentity) (next tail : ℕ) (s₁ : o₁ ≡ os) (s₂ : o₂ ≡ o₁)
    (f : read_form k h os at ≡ Ok (form, mid)) (c : read_cell broken form (length o₁) o₁ mid ≡ Ok (n, next)) (t : tail ≡ k.tail) (l : next + tail ≤ length o₂) where
  abbrev pub rest : List ℕ
  rest = take (next + tail - next) (drop next o₂)

  whole : read_entry k broken h (length os) os at ≡ checked (k.flaw rest) (record { cell = n; tail = rest }) next (next + tail)
  whole =
      let w : next + tail - next ≡ tail = omega arith in
      let b : next + k.tail ≤ length os = omega (arith, ap length s₁, ap length s₂) in
      entry_read k broken h (length os) os at form mid n next f (rw s₁ at c) ∙ rw (le-leb (next + k.tail) (length os) b, w, t, s₂, s₁)

  -- what the kind makes of it, its flaw as the fault of the entry
  pub entry_made :
      {X : Type 0} (m : X → Entry) (r : Result X Flaw) (a : Result X EntryFault) (was is : Reader)
      → MatchResult r (λ e. (k.flaw rest ≡ None) × (m e ≡ record { cell = n; tail = rest })) (λ d. (k.flaw rest ≡ Some d.index) × (d.index < k.tail))
      → MatchResult r (λ e. a ≡ Ok e) (λ d. a ≡ Err (record { place = next + d.index })) → is.octets ≡ was.octets → is.at ≡ next + tail
      → Reads m was a is (read_entry k broken h (length os) os at)
  entry_made m (Ok e) (Ok x) was is d p q z = let y : x ≡ e = cc in rw y (whole ∙ rw (d.0) (ap (λ (v : Entry). Ok (v, next + tail)) (sym d.1) ∙ ap (λ (v : ℕ). Ok (m e, v)) (sym z)), q)
  entry_made m (Ok e) (Err x) was is d p q z = absurd cc
  entry_made m (Err e) (Ok x) was is d p q z = absurd cc
  entry_made m (Err e) (Err x) was is d p q z = let y : x ≡ record { place = next + e.index } = cc in (rw y (whole ∙ rw d.0), q)

module _ (k : Kind) (broken : EntryFault) (h end : ℕ) (os : List ℕ) where
  pub done : (room at : ℕ) → end ≤ at → read_entries k broken h end os room at ≡ Ok []
  done zero at l = rw (le-ltb at end l)
  done (suc room) at l = rw (le-ltb at end l)

  pub full : (at : ℕ) → at < end → read_entries k broken h end os 0 at ≡ Err broken
  full at l = rw (lt-ltb at end l)

  pub fault : (room at : ℕ) (f : EntryFault) → at < end → read_entry k broken h end os at ≡ Err f → read_entries k broken h end os (suc room) at ≡ Err f
  fault room at f l e = rw (lt-ltb at end l, e)

  pub more :
      (room at next : ℕ) (e : Entry) → at < end → read_entry k broken h end os at ≡ Ok (e, next)
      → read_entries k broken h end os (suc room) at ≡ before e (read_entries k broken h end os room next)
  more room at next e l p = rw (lt-ltb at end l, p)

pub before_ok :
    (e : Entry) (r : Result (List Entry) EntryFault) (es : List Entry) → before e r ≡ Ok es → (fs : List Entry) × (r ≡ Ok fs) × (e ∷ fs ≡ es)
before_ok e (Ok fs) es p = (fs, refl, same_ok _ _ p)
before_ok e (Err f) es p = absurd (not_ok f es p)

pub prefixed_before : {F : Type 0} (es : List Entry) (e : Entry) (r : Result (List Entry) F) → prefixed es (before e r) ≡ prefixed (es ++ e ∷ []) r
prefixed_before es e (Ok fs) = rw append_assoc
prefixed_before es e (Err f) = refl

-- the same, for a loop that has read es and has R to give in the end
module _ (k : Kind) (broken : EntryFault) (h end : ℕ) (os : List ℕ) (R : Result (List Entry) EntryFault) where
  pub inv-done : (es : List Entry) (room at : ℕ) → prefixed es (read_entries k broken h end os room at) ≡ R → end ≤ at → R ≡ Ok es
  inv-done es room at i l = sym i ∙ rw (done k broken h end os room at l, append-nil)

  pub inv-fault :
      (es : List Entry) (room at : ℕ) (f : EntryFault) → prefixed es (read_entries k broken h end os room at) ≡ R → at < end → 0 < room
      → read_entry k broken h end os at ≡ Err f → R ≡ Err f
  inv-fault es zero at f i l p e = absurd (omega arith)
  inv-fault es (suc room) at f i l p e = sym i ∙ rw (fault k broken h end os room at f l e)

  pub inv-more :
      (es : List Entry) (room at next : ℕ) (e : Entry) → prefixed es (read_entries k broken h end os room at) ≡ R → at < end → 0 < room
      → read_entry k broken h end os at ≡ Ok (e, next) → prefixed (es ++ e ∷ []) (read_entries k broken h end os (room - 1) next) ≡ R
  inv-more es zero at next e i l p q = absurd (omega arith)
  inv-more es (suc room) at next e i l p q =
      let s : suc room - 1 ≡ room = omega arith in
      rw s
      (sym (prefixed_before es e (read_entries k broken h end os room next)) ∙ ap (prefixed es) (sym (more k broken h end os room at next e l q)) ∙ i)
