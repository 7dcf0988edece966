-- A period, cell by cell, as the site's model tells it: what became of each message, and by how much the site's counts rose.
use Rattle.std.proofs.Common.{◌≡◌, ℕ, zero, suc, ◌+◌, ◌<◌, ◌≤◌, ◌≢◌, List, [], ◌∷◌, map, length, get_or, refl, ap, ◌∙◌, arith}
use Rattle.std.specs.List.{AllZip}
use Rattle.std.proofs.lemmas.List.Sums.{sum_by-cons}
use Rattle.cbsp.specs.declared.channel.Channel.{Channel}
use Rattle.rows.specs.declared.row.Row.{Row}
use Rattle.rows.specs.Linked.{Linked}
use Rattle.rows.specs.Sweep.{Served, Turn, Turns, lowered}
use Rattle.rows.specs.Texts.{Text}
use Rattle.site.specs.Events.{Event}
use Rattle.site.specs.Model.{Model}
use Rattle.law.specs.Law.{tally}
use Rattle.law.proofs.Turning.{Eased, Moved, Turned, eased_more, eased_none, moved_more, share, turned}

-- the messages of cell k, their waits lowered already, while the site went from m to n
pub record Swept (k : ℕ) (rs ss : List Row) (m n : Model) : Type 0 where
  pub rows : AllZip (Moved k n) rs ss
  pub count : (h : Channel) → n.count k h + tally h rs ≡ m.count k h + tally h ss

-- the messages of all cells
pub record SweptAll (rss xss : List (List Row)) (m n : Model) : Type 0 where
  pub swept : (k : ℕ) → Swept k (map lowered (get_or rss k [])) (get_or xss k []) m n
  pub opened : n.opened ≡ m.opened
  pub rest : (k : ℕ) (h : Channel) → length rss ≤ k → n.count k h ≡ m.count k h
  pub long : length xss ≡ length rss

each_weaker : {X : Type 0} (R S : X → X → Type 0) → ((x y : X) → R x y → S x y) → (xs ys : List X) → AllZip R xs ys → AllZip S xs ys
each_weaker R S f [] [] e = tt
each_weaker R S f [] (y ∷ ys) e = e
each_weaker R S f (x ∷ xs) [] e = e
each_weaker R S f (x ∷ xs) (y ∷ ys) e = (f x y e.0, each_weaker R S f xs ys e.1)

-- the messages of a cell, one after the other
record CellSwept (k : ℕ) (rs ss : List Row) (m n : Model) : Type 0 where
  swept : Swept k rs ss m n
  eased : Eased m n
  apart : (j : ℕ) (h : Channel) → j ≢ k → n.count j h ≡ m.count j h

cell_none : (k : ℕ) (m n : Model) → n ≡ m → CellSwept k [] [] m n
cell_none k m n e = rw e (record { swept = record { rows = tt; count = λ h. refl }; eased = eased_none m; apart = λ j h ne. refl })

cell_more : (k : ℕ) (r x : Row) (rs xs : List Row) (m n o : Model) → Turned k r x m n → CellSwept k rs xs n o → CellSwept k (r ∷ rs) (x ∷ xs) m o
cell_more k r x rs xs m n o a b = record {
  swept = record {
    rows = (moved_more k n o b.eased r x a.moved, b.swept.rows);
    count = λ h. omega (arith, sum_by-cons (share h) r rs, sum_by-cons (share h) x xs, a.count h, b.swept.count h);
  };
  eased = eased_more m n o a.eased b.eased;
  apart = λ j h ne. b.apart j h ne ∙ a.apart j h ne;
}

-- the cells from number i on
record CellsSwept (i : ℕ) (rss xss : List (List Row)) (m n : Model) : Type 0 where
  swept : (j : ℕ) → Swept (i + j) (map lowered (get_or rss j [])) (get_or xss j []) m n
  eased : Eased m n
  earlier : (k : ℕ) (h : Channel) → k < i → n.count k h ≡ m.count k h
  later : (k : ℕ) (h : Channel) → i + length rss ≤ k → n.count k h ≡ m.count k h
  long : length xss ≡ length rss

cells_none : (i : ℕ) (m n : Model) → n ≡ m → CellsSwept i [] [] m n
cells_none i m n e =
    rw e
    (record {
      swept = λ j. record { rows = tt; count = λ h. refl };
      eased = eased_none m;
      earlier = λ k h l. refl;
      later = λ k h l. refl;
      long = refl;
    })

-- a cell is as it was left while later cells are served, and as it was while earlier ones are
swept_then : (k : ℕ) (rs ss : List Row) (m n o : Model) → Swept k rs ss m n → Eased n o → ((h : Channel) → o.count k h ≡ n.count k h) → Swept k rs ss m o
swept_then k rs ss m n o a b e = record {
  rows = each_weaker (Moved k n) (Moved k o) (moved_more k n o b) rs ss a.rows;
  count = λ h. omega (arith, a.count h, e h);
}

swept_from : (k : ℕ) (rs ss : List Row) (m n o : Model) → ((h : Channel) → n.count k h ≡ m.count k h) → Swept k rs ss n o → Swept k rs ss m o
swept_from k rs ss m n o e a = record { rows = a.rows; count = λ h. omega (arith, a.count h, e h) }

cells_more :
    (i : ℕ) (rs xs : List Row) (rss xss : List (List Row)) (m n o : Model) → CellSwept i (map lowered rs) xs m n → CellsSwept (i + 1) rss xss n o
    → CellsSwept i (rs ∷ rss) (xs ∷ xss) m o
cells_more i rs xs rss xss m n o a b = record {
  swept = at;
  eased = eased_more m n o a.eased b.eased;
  earlier = λ k h l. b.earlier k h (omega arith) ∙ a.apart k h (omega arith);
  later = λ k h l. b.later k h (omega arith) ∙ a.apart k h (omega arith);
  long = ap suc b.long;
}
  where
    at : (j : ℕ) → Swept (i + j) (map lowered (get_or (rs ∷ rss) j [])) (get_or (xs ∷ xss) j []) m o
    at zero =
        let z : i + 0 ≡ i = omega arith in
        rw z (swept_then i (map lowered rs) xs m n o a.swept b.eased (λ h. b.earlier i h (omega arith)))
    at (suc j) =
        let z : i + suc j ≡ i + 1 + j = omega arith in
        rw z (swept_from (i + 1 + j) (map lowered (get_or rss j [])) (get_or xss j []) m n o (λ h. a.apart (i + 1 + j) h (omega arith)) (b.swept j))

module _ {S : Type 0} (model : S → Model) (steps : S → Event → S → Type 0) (texts : List Text) where
  cell_swept :
      (k i : ℕ) (rs xs : List Row) (s t : S) → Linked (λ _ r u x v. Turn model steps texts k (lowered r) u x v) i rs s xs t
      → CellSwept k (map lowered rs) xs (model s) (model t)
  cell_swept k i [] [] s t a = cell_none k (model s) (model t) (ap model a)
  cell_swept k i [] (x ∷ xs) s t a = absurd a
  cell_swept k i (r ∷ rs) [] s t a = absurd a
  cell_swept k i (r ∷ rs) (x ∷ xs) s t a =
      cell_more k (lowered r) x (map lowered rs) xs (model s) (model a.0) (model t) (turned model steps texts k (lowered r) x s a.0 a.1)
      (cell_swept k (i + 1) rs xs a.0 t a.2)

  cells_swept : (i : ℕ) (rss xss : List (List Row)) (s t : S) → Linked (Turns model steps texts) i rss s xss t → CellsSwept i rss xss (model s) (model t)
  cells_swept i [] [] s t a = cells_none i (model s) (model t) (ap model a)
  cells_swept i [] (xs ∷ xss) s t a = absurd a
  cells_swept i (rs ∷ rss) [] s t a = absurd a
  cells_swept i (rs ∷ rss) (xs ∷ xss) s t a =
      cells_more i rs xs rss xss (model s) (model a.0) (model t) (cell_swept i 0 rs xs s a.0 a.1) (cells_swept (i + 1) rss xss a.0 t a.2)

  -- m is the model where the turns began, n where they ended
  pub swept_all : (rss xss : List (List Row)) (s t : S) → Served model steps texts rss s xss t → SweptAll rss xss (model s) (model t)
  swept_all rss xss s t a =
      let c = cells_swept 0 rss xss s t a in
      record {
        swept = λ k. let z : 0 + k ≡ k = omega arith in rw z at (c.swept k);
        opened = c.eased.opened;
        rest = λ k h l. c.later k h (omega arith);
        long = c.long;
      }
