-- The search for a free slot, look by look.
use Rattle.std.proofs.Common.{◌≡◌, ℕ, zero, suc, ◌+◌, ◌-◌, ◌<◌, ◌≤◌, ◌≢◌, Bool, true, false, cond, not, eqb, ltb, ◌||◌, ◌⊎◌, inl, inr, List, [], ◌∷◌, ◌++◌, map, length, get_or, take, drop, set, replicate, Some, None, Option, sym, refl, ap, ◌∙◌, arith}
use Rattle.std.specs.List.{find, list_any, position, position_or_len, range_with_len}
use Rattle.std.specs.Option.{option_map_or}
use Rattle.std.proofs.lemmas.Bool.{ltb-true, ltb-false, or_from, or_parts}
use Rattle.std.proofs.lemmas.Option.{none-some, cond_some}
use Rattle.std.proofs.lemmas.Bool.Decides.{eqb_tells}
use Rattle.std.proofs.lemmas.List.{take-append-drop, take_all, drop-map, length-take, length-drop, length-map, length-set, get_or-take, get_or-set_other}
use Rattle.std.proofs.lemmas.List.Elements.{All-from_get_or}
use Rattle.std.proofs.lemmas.List.Folds.{list_any-append, list_any_at, list_any_none}
use Rattle.std.proofs.lemmas.List.Sums.{fails_before_first, passes_at_first}
use Rattle.std.proofs.Math.Seq.{take-add}
use Rattle.rows.specs.declared.row.Row.{Row}
use Rattle.rows.specs.declared.rows.Rows.{Rows}
use Rattle.rows.specs.Held.{rows_of}
use Rattle.rows.specs.Keys.{is_same, without}
use Rattle.table.specs.declared.asked.Asked.{Asked}
use Rattle.table.specs.Pool.{PassedHoldNone, has_slot, holds, is_used, moved_on, none_passed}
use Rattle.table.specs.Write.{cut, key_in}

module _ {X : Type 0} (p : X → Bool) where
  -- a test passes somewhere where the place of the first that passes is within, else nowhere, and never before it
  found : (xs : List X) (d : X) → ltb (position_or_len p xs) (length xs) ≡ true → list_any p xs ≡ true
  found xs d e =
      let within = ltb-true (position_or_len p xs) (length xs) e in
      list_any_at p xs (position_or_len p xs) d within (passes_at_first p xs d within)

  missed : (xs : List X) (d : X) → ltb (position_or_len p xs) (length xs) ≡ false → list_any p xs ≡ false
  missed xs d e =
      let past = ltb-false (position_or_len p xs) (length xs) e in
      list_any_none p xs (All-from_get_or (λ x. p x ≡ false) xs d (λ k h. fails_before_first p xs k d (omega (arith, h, past))))

  before : (xs : List X) (d : X) → list_any p (take (position_or_len p xs) xs) ≡ false
  before xs d =
      let n = position_or_len p xs in
      list_any_none p (take n xs)
      (All-from_get_or (λ x. p x ≡ false) (take n xs) d
      (λ k h. let under : k < n = omega (arith, h, length-take n xs) in ap p (get_or-take n xs k d under) ∙ fails_before_first p xs k d under))

  -- one element becomes another, which passes only where the first did
  fewer : (n : ℕ) (xs : List X) (k : ℕ) (y d : X) → (p (get_or xs k d) ≡ false → p y ≡ false) → list_any p (take n xs) ≡ false → list_any p (take n (set xs k y)) ≡ false
  fewer zero xs k y d h e = refl
  fewer (suc n) [] k y d h e = refl
  fewer (suc n) (x ∷ xs) zero y d h e =
      let b = or_parts (p x) (list_any p (take n xs)) e in
      or_from (p y) (list_any p (take n xs)) (h b.0) b.1
  fewer (suc n) (x ∷ xs) (suc k) y d h e =
      let b = or_parts (p x) (list_any p (take n xs)) e in
      or_from (p x) (list_any p (take n (set xs k y))) b.0 (fewer n xs k y d h b.1)

module _ (ts : List (List Row)) (from s : ℕ) (passed : is_used (take from ts) s ≡ false) where
  -- how many cells further the next holder is
  abbrev more : ℕ
  more = position_or_len (holds s) (drop from ts)

  -- the cells that were passed hold none, so that it is the rest that matters
  rest : is_used ts s ≡ list_any (holds s) (drop from ts)
  rest =
      ap (λ (l : List (List Row)). is_used l s) (sym (take-append-drop from ts))
      ∙ list_any-append (holds s) (take from ts) (drop from ts)
      ∙ ap (λ b. b || list_any (holds s) (drop from ts)) passed

  none_further : None ≡ position (holds s) (drop from ts) → is_used ts s ≡ false
  none_further e = by (ltb more (length (drop from ts))) refl e
    where
      by : (b : Bool) → ltb more (length (drop from ts)) ≡ b → None ≡ cond b (Some more) None → is_used ts s ≡ false
      by true t e = absurd (none-some more e)
      by false t e = rest ∙ missed (holds s) (drop from ts) [] t

  further : (k : ℕ) → Some k ≡ position (holds s) (drop from ts) → (is_used ts s ≡ true) × (k < length (drop from ts)) × (is_used (take (from + k) ts) s ≡ false)
  further k e =
      let f = cond_some (ltb more (length (drop from ts))) more k (sym e) in
      let none =
      ap (λ (l : List (List Row)). is_used l s) (take-add from more ts)
      ∙ list_any-append (holds s) (take from ts) (take more (drop from ts))
      ∙ or_from _ _ passed (before (holds s) (drop from ts) []) in
      (rest ∙ found (holds s) (drop from ts) [] f.0, rw (← f.1) (ltb-true more (length (drop from ts)) f.0), rw (← f.1) none)

-- the place of the first among the images is that among the elements
module _ {X Y : Type 0} (p : Y → Bool) (f : X → Y) where
  place_of_map : (xs : List X) → position_or_len (λ x. p (f x)) xs ≡ position_or_len p (map f xs)
  place_of_map [] = refl
  place_of_map (x ∷ xs) = ap (λ n. cond (not (p (f x))) (1 + n) 0) (place_of_map xs)

  pub position_of_map : (xs : List X) → position (λ x. p (f x)) xs ≡ position p (map f xs)
  position_of_map xs =
      let k = position_or_len p (map f xs) in
      ap (λ n. cond (ltb n (length xs)) (Some n) None) (place_of_map xs) ∙ ap (λ m. cond (ltb k m) (Some k) None) (sym (length-map xs f))

-- what is known stays true where the look for a slot went on
get_set : (ks : List ℕ) (i j k : ℕ) → (get_or (set ks i k) j 0 ≡ get_or ks j 0) ⊎ ((i ≡ j) × (get_or (set ks i k) j 0 ≡ k))
get_set [] i j k = inl refl
get_set (n ∷ ks) zero zero k = inr (refl, refl)
get_set (n ∷ ks) zero (suc j) k = inl refl
get_set (n ∷ ks) (suc i) zero k = inl refl
get_set (n ∷ ks) (suc i) (suc j) k = by (get_set ks i j k)
  where
    by : (get_or (set ks i k) j 0 ≡ get_or ks j 0) ⊎ ((i ≡ j) × (get_or (set ks i k) j 0 ≡ k))
        → (get_or (set ks i k) j 0 ≡ get_or ks j 0) ⊎ ((suc i ≡ suc j) × (get_or (set ks i k) j 0 ≡ k))
    by (inl e) = inl e
    by (inr e) = inr (ap suc e.0, e.1)

zeroed : (ks : List ℕ) (i : ℕ) → get_or (set ks i 0) i 0 ≡ 0
zeroed [] i = refl
zeroed (n ∷ ks) zero = refl
zeroed (n ∷ ks) (suc i) = zeroed ks i

went_on : (passed : List ℕ) (ts : List (List Row)) (s k : ℕ) → PassedHoldNone passed ts → k ≤ length ts → is_used (take k ts) s ≡ false → PassedHoldNone (set passed s k) ts
went_on passed ts s k hold within none j = by (get_set passed s j k)
  where
    by : (get_or (set passed s k) j 0 ≡ get_or passed j 0) ⊎ ((s ≡ j) × (get_or (set passed s k) j 0 ≡ k))
        → (get_or (set passed s k) j 0 ≤ length ts) × (is_used (take (get_or (set passed s k) j 0) ts) j ≡ false)
    by (inl e) = rw e (hold j)
    by (inr e) = rw e.1 (within, rw (← e.0) none)

-- a look, as the code cuts off what is left to look through; it reads the slot as a place
module _ (cells : List Rows) (passed : List ℕ) (hold : PassedHoldNone passed (map rows_of cells)) (s : ℕ) where
  abbrev left : ℕ → List (List Row)
  left n = map rows_of (take (length cells - get_or passed n 0) (drop (get_or passed n 0) cells))

  left_is : left s ≡ drop (get_or passed s 0) (map rows_of cells)
  left_is =
      let from = get_or passed s 0 in
      ap (map rows_of) (take_all (length cells - from) (drop from cells) (omega (arith, length-drop from cells))) ∙ sym (drop-map rows_of from cells)

  looks_on : (n : ℕ) → n ≡ s → position (holds s) (left n) ≡ position (holds s) (drop (get_or passed s 0) (map rows_of cells))
  looks_on n is = ap (λ m. position (holds s) (left m)) is ∙ ap (position (holds s)) left_is

  pub looked_none : (n : ℕ) → n ≡ s → None ≡ position (holds s) (left n) → is_used (map rows_of cells) s ≡ false
  looked_none n is e = none_further (map rows_of cells) (get_or passed s 0) s (hold s).1 (e ∙ looks_on n is)

  pub looked_some : (n k : ℕ) → n ≡ s → Some k ≡ position (holds s) (left n) → (is_used (map rows_of cells) s ≡ true) × PassedHoldNone (set passed n (get_or passed n 0 + k)) (map rows_of cells)
  looked_some n k is e =
      let ts = map rows_of cells in
      let from = get_or passed s 0 in
      let f = further ts from s (hold s).1 k (e ∙ looks_on n is) in
      let within : from + k ≤ length ts = omega (arith, (hold s).0, f.1, length-drop from ts) in
      (f.0, rw is (went_on passed ts s (from + k) hold within f.2))

  pub moved : (n : ℕ) → n ≡ s → (o : Option ℕ) → o ≡ position (holds s) (left n) → option_map_or (λ k. set passed n (get_or passed n 0 + k)) o passed ≡ moved_on passed (map rows_of cells) s
  moved n is o e = rw is (ap (λ p. option_map_or (λ k. set passed s (get_or passed s 0 + k)) p passed) (e ∙ looks_on n is))

-- a message begins in a cell, and its slot's look begins anew
module _ (passed : List ℕ) (ts : List (List Row)) (hold : PassedHoldNone passed ts) (c : ℕ) where
  abbrev at : ℕ → List Row → Type 0
  at s rs = (get_or passed s 0 ≤ length (set ts c rs)) × (is_used (take (get_or passed s 0) (set ts c rs)) s ≡ false)

  -- the cell then holds a slot only if it did
  fewer_at : (s : ℕ) (rs : List Row) → (holds s (get_or ts c []) ≡ false → holds s rs ≡ false) → at s rs
  fewer_at s rs less = (rw (length-set ts c rs) (hold s).0, fewer (holds s) (get_or passed s 0) ts c rs [] less (hold s).1)

  pub fewer_fit : (rs : List Row) → ((s : ℕ) → holds s (get_or ts c []) ≡ false → holds s rs ≡ false) → PassedHoldNone passed (set ts c rs)
  fewer_fit rs less s = fewer_at s rs (less s)

  pub one_more_fits : (r : Row) → PassedHoldNone (set passed r.slot 0) (set ts c (get_or ts c [] ++ r ∷ []))
  one_more_fits r s = by (eqb_tells r.slot s)
    where
      rs : List Row
      rs = get_or ts c [] ++ r ∷ []

      by : ((eqb r.slot s ≡ true) × (r.slot ≡ s)) ⊎ ((eqb r.slot s ≡ false) × (r.slot ≢ s))
          → (get_or (set passed r.slot 0) s 0 ≤ length (set ts c rs)) × (is_used (take (get_or (set passed r.slot 0) s 0) (set ts c rs)) s ≡ false)
      by (inl e) = rw (e.1, zeroed passed s) (omega arith, refl)
      by (inr e) =
          rw (get_or-set_other passed r.slot s 0 0 (λ q. e.1 (sym q)))
          (fewer_at s rs (λ h. list_any-append (has_slot s) (get_or ts c []) (r ∷ []) ∙ or_from _ _ h (or_from _ _ e.0 refl)))

-- a cell holds no more slots once a message is taken out
pub without_holds : (test : Row → Bool) (rs : List Row) (s : ℕ) → holds s rs ≡ false → holds s (without test rs) ≡ false
without_holds test [] s e = refl
without_holds test (r ∷ rs) s e = by (test r) (or_parts (has_slot s r) (holds s rs) e) (without_holds test rs s)
  where
    by : (b : Bool) → (has_slot s r ≡ false) × (holds s rs ≡ false) → (holds s rs ≡ false → holds s (without test rs) ≡ false)
        → holds s (cond b rs (r ∷ without test rs)) ≡ false
    by true e f = e.1
    by false e f = or_from (has_slot s r) (holds s (without test rs)) e.0 (f e.1)

pub cut_holds : (q : Asked) (old : Option ℕ) (rs : List Row) (s : ℕ) → holds s rs ≡ false → holds s (cut q old rs) ≡ false
cut_holds q None rs s e = e
cut_holds q (Some serial) rs s e = without_holds (is_same (key_in q serial)) rs s e

-- at first no cell was passed
pub none_fit : (ts : List (List Row)) → PassedHoldNone none_passed ts
none_fit ts s = rw (zeros 32 s) (omega arith, refl)
  where
    zeros : (n i : ℕ) → get_or (replicate n zero) i zero ≡ zero
    zeros zero i = refl
    zeros (suc n) zero = refl
    zeros (suc n) (suc i) = zeros n i

-- the slots from one on, the lowest first
module _ (ts : List (List Row)) where
  abbrev pub free_from : ℕ → Option ℕ
  free_from i = find (λ s. not (is_used ts s)) (range_with_len i (32 - i))

  at_slot : (i : ℕ) → i < 32 → free_from i ≡ cond (not (is_used ts i)) (Some i) (free_from (i + 1))
  at_slot i h =
      let one : 32 - i ≡ suc (32 - (i + 1)) = omega (arith, h) in
      ap (λ n. find (λ s. not (is_used ts s)) (range_with_len i n)) one

  pub free_here : (i : ℕ) → i < 32 → is_used ts i ≡ false → free_from i ≡ Some i
  free_here i h e = at_slot i h ∙ ap (λ b. cond (not b) (Some i) (free_from (i + 1))) e

  pub used_here : (i : ℕ) → i < 32 → is_used ts i ≡ true → free_from i ≡ free_from (i + 1)
  used_here i h e = at_slot i h ∙ ap (λ b. cond (not b) (Some i) (free_from (i + 1))) e

  pub none_left : (i : ℕ) → 32 ≤ i → free_from i ≡ None
  none_left i h =
      let none : 32 - i ≡ 0 = omega (arith, h) in
      ap (λ n. find (λ s. not (is_used ts s)) (range_with_len i n)) none
