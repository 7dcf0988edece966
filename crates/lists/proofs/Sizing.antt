-- One step of the search for entries that are ill sized.
use Rattle.std.proofs.Common.{◌≡◌, ℕ, zero, suc, ◌-◌, ◌<◌, ◌≤◌, Bool, true, false, ltb, ◌||◌, List, Some, None, Option, sym, ◌∙◌, ap, arith}
use Rattle.std.proofs.lemmas.Bool.{lt-ltb, le-ltb, or_left}
use Rattle.lists.specs.Entries.{Kind}
use Rattle.lists.specs.Sizes.{ends_ill, entry_end, ill_sized}

-- R is what is told of all entries
module _ (k : Kind) (h end : ℕ) (os : List ℕ) (R : Bool) where
  -- no entry is left
  pub sized_done : (room at : ℕ) → ill_sized k h end os room at ≡ R → end ≤ at → R ≡ false
  sized_done zero at i l = sym i ∙ le-ltb at end l
  sized_done (suc room) at i l = sym i ∙ rw (le-ltb at end l)

  -- no more may be there
  pub sized_left : (at : ℕ) → ill_sized k h end os 0 at ≡ R → ltb at end ≡ R
  sized_left at i = i

  step : (room at : ℕ) → ill_sized k h end os (suc room) at ≡ R → at < end → R ≡ ends_ill (entry_end k h os at) end (ill_sized k h end os room)
  step room at i l = sym i ∙ rw (lt-ltb at end l)

  by_entry : (room at : ℕ) → ill_sized k h end os room at ≡ R → at < end → 0 < room → (o : Option ℕ) → entry_end k h os at ≡ o → R ≡ ends_ill o end (ill_sized k h end os (room - 1))
  by_entry zero at i l r o e = absurd (omega arith)
  by_entry (suc room) at i l r o e =
      let s : room ≡ suc room - 1 = omega arith in
      step room at i l ∙ ap (λ (p : Option ℕ). ends_ill p end (ill_sized k h end os room)) e ∙ ap (λ (n : ℕ). ends_ill o end (ill_sized k h end os n)) s

  module _ (room at : ℕ) (i : ill_sized k h end os room at ≡ R) (l : at < end) (r : 0 < room) where
    -- an entry that may not be there
    pub sized_unknown : entry_end k h os at ≡ None → R ≡ false
    sized_unknown e = by_entry room at i l r None e

    -- one that breaks off
    pub sized_broken : (next : ℕ) → entry_end k h os at ≡ Some next → end < next → R ≡ true
    sized_broken next e m = by_entry room at i l r (Some next) e ∙ or_left (ltb end next) _ (lt-ltb end next m)

    -- and one that does not
    pub sized_more : (next : ℕ) → entry_end k h os at ≡ Some next → next ≤ end → ill_sized k h end os (room - 1) next ≡ R
    sized_more next e m = sym (by_entry room at i l r (Some next) e ∙ ap (λ (b : Bool). b || ill_sized k h end os (room - 1) next) (le-ltb end next m))
