-- A request over namings, told cell by cell: for any kind of request, from what it does in one cell.
use Rattle.std.proofs.Common.{◌≡◌, ℕ, ◌+◌, ◌<◌, Bool, true, false, cond, eqb, List, [], ◌∷◌, ◌++◌, map, length, get_or, set, Some, None, Option, sym, refl, ap, ◌∙◌, subst, arith}
use Rattle.std.specs.List.{AllByRecursion}
use Rattle.std.proofs.lemmas.List.{append-nil, append_assoc, get_or-set_other, length-set, length-map}
use Rattle.std.proofs.lemmas.Bool.{eqb-true, eqb-false, ne_eqb}
use Rattle.cells.specs.declared.cell.Cell.{Cell}
use Rattle.lists.specs.CellLists.{CellsV}
use Rattle.naming.specs.declared.naming.Naming.{Naming}
use Rattle.naming.specs.declared.naming.Naming.TheVariants as naming
use Rattle.naming.specs.Namings.{named_by, namings, cells_in, Once}
use Rattle.naming.proofs.Onces.{sound}
use Rattle.replies.specs.Worked.{worked}
use Rattle.rows.specs.declared.row.Row.{Row}
use Rattle.table.specs.declared.outcome.Outcome.{Outcome}
use Rattle.table.specs.Acts.{Acts}
use Rattle.table.specs.Settings.{Setting, here}
use Rattle.table.specs.Handling.{Stage, stage, setting_at, comes_of, rows_on, request_on, step_on, handled}
use Rattle.outcomes.specs.Tells.{is_of, outcome_at, SoundFor, AllSound, of_cell, cell_count, By, Tells}
use Rattle.outcomes.proofs.Coming.{Right, namings_right, namings_few, cells_few, some_comes}

-- the messages of no cell but one are others
pub record OnlyAt (k : ℕ) (rows rows' : List (List Row)) : Type 0 where
  pub long : length rows' ≡ length rows
  pub others : (j : ℕ) → (j ≡ k → ⊥) → get_or rows' j [] ≡ get_or rows j []

pub only_none : (k : ℕ) (rows : List (List Row)) → OnlyAt k rows rows
only_none k rows = record { long = refl; others = λ j ne. refl }

pub only_set : (k : ℕ) (rows : List (List Row)) (rs : List Row) → OnlyAt k rows (set rows k rs)
only_set k rows rs = record { long = length-set rows k rs; others = λ j ne. get_or-set_other rows k j rs [] ne }

pub only_then : {k : ℕ} {a b c : List (List Row)} → OnlyAt k a b → OnlyAt k b c → OnlyAt k a c
only_then f g = record { long = g.long ∙ f.long; others = λ j ne. g.others j ne ∙ f.others j ne }

-- whom the outcomes are of
abbrev pub whoms : List Outcome → List Naming
whoms os = map (λ (o : Outcome). o.whom) os

-- a cell is not among the namings
abbrev pub NotIn : ℕ → List Naming → Type 0
NotIn k ns = AllByRecursion (λ j. j ≡ k → ⊥) (cells_in ns)

-- then it has no outcome
pub unnamed : (os : List Outcome) (k : ℕ) → NotIn k (whoms os) → outcome_at k os ≡ None
unnamed [] k a = refl
unnamed (o ∷ os) k a = go o.whom (unnamed os k) a
  where
    go : (n : Naming) → (NotIn k (whoms os) → outcome_at k os ≡ None) → NotIn k (n ∷ whoms os) → cond (is_of k n) (Some o) (outcome_at k os) ≡ None
    go (naming.Cell j) more b = rw (ne_eqb k j (λ e. b.0 (sym e))) (more b.1)
    go (naming.NoCell e) more b = more b

pub cells_counted : (os : List Outcome) → cell_count os ≡ length (cells_in (whoms os))
cells_counted [] = refl
cells_counted (o ∷ os) = go o.whom (cells_counted os)
  where
    go : (n : Naming) → cell_count os ≡ length (cells_in (whoms os)) → of_cell n + cell_count os ≡ length (cells_in (n ∷ whoms os))
    go (naming.Cell k) more = omega arith
    go (naming.NoCell e) more = omega arith

-- the messages went from `rows` to `rows'` as the outcomes say, and these are of the namings
record Told (cells : List Cell) (E : Outcome → List Row → List Row → Type 0) (rows rows' : List (List Row)) (ns : List Naming) (os : List Outcome) : Type 0 where
  whom : whoms os ≡ ns
  sound : AllSound cells os
  cell : (k : ℕ) → By E (outcome_at k os) (get_or rows k []) (get_or rows' k [])
  long : length rows' ≡ length rows

-- a cell, and then namings without it
module _ (cells : List Cell) (E : Outcome → List Row → List Row → Type 0) (k : ℕ) (o : Outcome) (rows mid rows' : List (List Row))
    (ns : List Naming) (os : List Outcome) (whom : o.whom ≡ naming.Cell k) (there : k < length cells) (only : OnlyAt k rows mid) (at : E o (get_or rows k []) (get_or mid k []))
    (new : NotIn k ns) (rest : Told cells E mid rows' ns os) where
  alone : outcome_at k os ≡ None
  alone = unnamed os k (subst (NotIn k) (sym rest.whom) new)

  -- those leave it
  kept : get_or rows' k [] ≡ get_or mid k []
  kept = subst (λ (x : Option Outcome). By E x (get_or mid k []) (get_or rows' k [])) alone (rest.cell k)

  cell_told : (j : ℕ) → By E (cond (is_of j o.whom) (Some o) (outcome_at j os)) (get_or rows j []) (get_or rows' j [])
  cell_told j = subst (λ (n : Naming). By E (cond (is_of j n) (Some o) (outcome_at j os)) (get_or rows j []) (get_or rows' j [])) (sym whom) (go (eqb j k) refl)
    where
      go : (b : Bool) → eqb j k ≡ b → By E (cond b (Some o) (outcome_at j os)) (get_or rows j []) (get_or rows' j [])
      go true e = rw (eqb-true j k e, kept) at
      go false e = subst (λ (rs : List Row). By E (outcome_at j os) rs (get_or rows' j [])) (only.others j (eqb-false j k e)) (rest.cell j)

  told_cell : Told cells E rows rows' (naming.Cell k ∷ ns) (o ∷ os)
  told_cell =
      record {
        whom = cc (whom, rest.whom);
        sound = (subst (SoundFor cells o os) (sym whom) (there, alone), rest.sound);
        cell = cell_told;
        long = rest.long ∙ only.long;
      }

-- a kind of request
module _ {R : Type 0} (acts : Acts R) where
  -- what it did in one cell: E tells it by the outcome, and Is still holds of the request
  pub record Local (Is : R → Type 0) (E : Outcome → List Row → List Row → Type 0) (q : R) (s : Setting) : Type 0 where
    pub whom : (acts.answer q s).whom ≡ naming.Cell s.cell
    pub only : OnlyAt s.cell s.rows (acts.leaves q s)
    pub at : E (acts.answer q s) (here s) (get_or (acts.leaves q s) s.cell [])
    pub still : Is (acts.becomes q s)

  -- it does that in every cell that is there
  abbrev pub Locally : (R → Type 0) → (Outcome → List Row → List Row → Type 0) → Type 0
  Locally Is E = (q : R) (s : Setting) → Is q → s.cell < length s.rows → Local Is E q s

  module _ (cells : List Cell) (opened : ℕ → Bool) where
    -- what comes of the namings that are left
    abbrev outcomes_of : R → List (List Row) → List Naming → List Outcome
    outcomes_of q rows [] = []
    outcomes_of q rows (n ∷ ns) =
        comes_of acts cells opened q rows n
        ∷ outcomes_of (request_on acts cells opened q rows n) (rows_on acts cells opened q rows n) ns

    handled_out : (ns : List Naming) (s : Stage R) → (handled acts cells opened s ns).out ≡ s.out ++ outcomes_of s.request s.rows ns
    handled_out [] s = sym (append-nil s.out)
    handled_out (n ∷ ns) s = handled_out ns (step_on acts cells opened s n) ∙ append_assoc s.out _ _

-- a kind of request whose outcome in a cell tells what it did there
module _ {R : Type 0} {acts : Acts R} {Is : R → Type 0} {E : Outcome → List Row → List Row → Type 0} (local : Locally acts Is E) (cells : List Cell) (opened : ℕ → Bool) where
  told : (ns : List Naming) (s : Stage R) → Is s.request → length s.rows ≡ length cells → AllByRecursion (Right cells) ns → Once (cells_in ns)
      → Told cells E s.rows (handled acts cells opened s ns).rows ns (outcomes_of acts cells opened s.request s.rows ns)
  told [] s is long right once = record { whom = refl; sound = tt; cell = λ k. refl; long = refl }
  told (naming.Cell k ∷ ns) s is long right once =
      let within : k < length s.rows = omega (arith, right.0) in
      let d = local s.request (setting_at acts cells opened s.rows k) is within in
      let next : Stage R = step_on acts cells opened s (naming.Cell k) in
      told_cell cells E k _ s.rows next.rows _ ns _ d.whom right.0 d.only d.at once.0 (told ns next d.still (d.only.long ∙ long) right.1 once.1)
  told (naming.NoCell e ∷ ns) s is long right once =
      let t = told ns (step_on acts cells opened s (naming.NoCell e)) is long right.1 once in
      record { whom = ap (λ (ms : List Naming). naming.NoCell e ∷ ms) t.whom; sound = ((refl, right.0), t.sound); cell = t.cell; long = t.long }

  -- over what a list comes to
  pub tells : (q : R) (rows : List (List Row)) (list : CellsV) → Is q → length rows ≡ length cells
      → Tells cells list E rows (worked acts cells opened q rows list).rows (worked acts cells opened q rows list).out
  tells q rows list is long =
      let es = named_by list in
      let ns = namings cells es in
      let os = outcomes_of acts cells opened q rows ns in
      let t = told ns (stage q rows []) is long (namings_right cells es) (sound cells es).1 in
      let all : length os ≡ length ns = sym (length-map os (λ (o : Outcome). o.whom)) ∙ ap (λ (ms : List Naming). length ms) t.whom in
      let of-cells : cell_count os ≡ length (cells_in ns) = cells_counted os ∙ ap (λ (ms : List Naming). length (cells_in ms)) t.whom in
      rw (handled_out acts cells opened ns (stage q rows []))
      (record {
        sound = t.sound;
        cell = t.cell;
        long = t.long;
        cells_few = λ f. omega (arith, cells_few cells es);
        few = λ f g. omega (arith, namings_few cells es);
        some = λ f g. omega (arith, some_comes cells es f g);
      })
