-- No count of a table's messages exceeds a bound: a period raises it by one, and no request does.
-- So the counts of a table fit their type, which a period asks of its caller.
use Rattle.std.proofs.Common.{◌≡◌, ℕ, zero, suc, ◌+◌, ◌^◌, ◌<◌, ◌≤◌, max, Bool, true, false, cond, ◌⊎◌, List, [], ◌∷◌, ◌++◌, map, length, get_or, set, Some, None, Option, refl, inl, inr, arith}
use Rattle.std.specs.List.{AllZip, AllByRecursion}
use Rattle.std.proofs.ByRecursion.{All-from_get_or}
use Rattle.std.proofs.lemmas.List.{get_or-set_same, get_or-set_other, set_past}
use Rattle.std.proofs.lemmas.Bool.{cases_eq, cases_lt}
use Rattle.cells.specs.declared.cell.Cell.{Cell}
use Rattle.elements.specs.declared.cause.Cause.{Cause}
use Rattle.lists.specs.CellLists.{CellsV}
use Rattle.outcomes.specs.Tells.{Begun, By, Emptied, Killed, Left, OutcomesTell, Tells, cut_by, grown_by, is_old, outcome_at}
use Rattle.outcomes.specs.Works.{kill_work, query_work, reset_work, write_work}
use Rattle.rows.specs.declared.key.Key.{Key}
use Rattle.rows.specs.declared.row.Row.{Row}
use Rattle.rows.specs.Keys.{is_same, without}
use Rattle.rows.specs.Sweep.{Served, lowered}
use Rattle.rows.specs.Texts.{Text}
use Rattle.site.specs.Events.{Event}
use Rattle.site.specs.Model.{Model}
use Rattle.table.specs.declared.asked.Asked.{Asked}
use Rattle.table.specs.declared.outcome.Outcome.{Outcome}
use Rattle.table.specs.Write.{row_of}
use Rattle.law.specs.Bound.{peak, Bounded}
use Rattle.law.proofs.Periods.{rise}
use Rattle.law.proofs.Sweeping.{swept_all}
use Rattle.law.proofs.Turning.{Moved}

-- counts under a bound fit
all_under : (n : ℕ) (rs : List Row) → peak rs ≤ n → n < 2 ^ 63 → AllByRecursion (λ r. r.count < 2 ^ 63) rs
all_under n [] e h = tt
all_under n (r ∷ rs) e h = (omega arith, all_under n rs (omega arith) h)

pub bounded_fit : (n : ℕ) (rows : List (List Row)) → Bounded n rows → n < 2 ^ 63 → AllByRecursion (λ rs. AllByRecursion (λ r. r.count < 2 ^ 63) rs) rows
bounded_fit n rows b h = All-from_get_or (λ rs. AllByRecursion (λ r. r.count < 2 ^ 63) rs) rows [] (λ k lt. all_under n (get_or rows k []) (b k) h)

pub bounded_weaken : (n m : ℕ) (rows : List (List Row)) → n ≤ m → Bounded n rows → Bounded m rows
bounded_weaken n m rows l b k = omega (arith, b k)

-- a period
peak_moved : (k : ℕ) (m : Model) (rs ss : List Row) → AllZip (Moved k m) (map lowered rs) ss → peak ss ≤ peak rs + 1
peak_moved k m [] [] e = omega arith
peak_moved k m [] (s ∷ ss) e = absurd e
peak_moved k m (r ∷ rs) [] e = absurd e
peak_moved k m (r ∷ rs) (s ∷ ss) e = omega (arith, (rise k m r s e.0).one, peak_moved k m rs ss e.1)

pub bounded_served :
    {S : Type 0} (model : S → Model) (steps : S → Event → S → Type 0) (texts : List Text) (n : ℕ) (rss xss : List (List Row)) (s t : S)
    → Served model steps texts rss s xss t → Bounded n rss → Bounded (n + 1) xss
bounded_served model steps texts n rss xss s t a b k =
    let moved = ((swept_all model steps texts rss xss s t a).swept k).rows in
    omega (arith, b k, peak_moved k (model t) (get_or rss k []) (get_or xss k []) moved)

-- messages that end or begin
peak_without : (p : Row → Bool) (rs : List Row) → peak (without p rs) ≤ peak rs
peak_without p [] = omega arith
peak_without p (r ∷ rs) = go (peak_without p rs) (p r)
  where
    go : peak (without p rs) ≤ peak rs → (b : Bool) → peak (cond b rs (r ∷ without p rs)) ≤ max r.count (peak rs)
    go ih true = omega arith
    go ih false = omega arith

peak_cut : (p : Row → Bool) (ended : Option ℕ) (rs ss : List Row) → ss ≡ cut_by p ended rs → peak ss ≤ peak rs
peak_cut p None rs ss e = rw e (omega arith)
peak_cut p (Some n) rs ss e = rw e (peak_without p rs)

peak_push : (r : Row) (rs : List Row) → r.count ≡ 0 → peak (rs ++ r ∷ []) ≤ peak rs
peak_push r [] e = omega arith
peak_push r (x ∷ xs) e = omega (arith, peak_push r xs e)

peak_grown : (r : Row) (cause : Option Cause) (rs ss : List Row) → r.count ≡ 0 → ss ≡ grown_by r cause rs → peak ss ≤ peak rs
peak_grown r None rs ss z e = rw e (peak_push r rs z)
peak_grown r (Some c) rs ss z e = rw e (omega arith)

begun_lowers : (q : Asked) (o : Outcome) (rs ss : List Row) → Begun q o rs ss → peak ss ≤ peak rs
begun_lowers q o rs ss e =
    let a = peak_cut (is_old q) o.ended rs e.between e.cut.rows in
    let b = peak_grown (row_of q e.slot) o.cause e.between ss refl e.grown in
    omega arith

-- a request raises the largest count of no cell
module _ (tells : OutcomesTell) (cells : List Cell) (opened : ℕ → Bool) (rows : List (List Row)) (list : CellsV) (n : ℕ) (long : length rows ≡ length cells)
    (b : Bounded n rows) where
  bounded_told :
      (E : Outcome → List Row → List Row → Type 0) → ((o : Outcome) (rs ss : List Row) → E o rs ss → peak ss ≤ peak rs) → (after : List (List Row))
      (out : List Outcome) → Tells cells list E rows after out → Bounded n after
  bounded_told E lowers after out t k = omega (arith, b k, lowered_by (outcome_at k out) (get_or rows k []) (get_or after k []) (t.cell k))
    where
      lowered_by : (p : Option Outcome) (rs ss : List Row) → By E p rs ss → peak ss ≤ peak rs
      lowered_by None rs ss e = rw e (omega arith)
      lowered_by (Some o) rs ss e = lowers o rs ss e

  pub bounded_kill : (key : Key) → Bounded n (kill_work cells opened key rows list).rows
  bounded_kill key =
      bounded_told (Killed key) (λ o rs ss e. peak_cut (is_same key) o.ended rs ss e.cut.rows) _ _ (tells.kill cells opened key rows list long)

  pub bounded_query : (key : Key) → Bounded n (query_work cells opened key rows list).rows
  bounded_query key = bounded_told Left (λ o rs ss e. rw e (omega arith)) _ _ (tells.query cells opened key rows list long)

  pub bounded_reset : Bounded n (reset_work cells opened rows list).rows
  bounded_reset = bounded_told Emptied (λ o rs ss e. rw e.rows (omega arith)) _ _ (tells.reset cells opened rows list long)

  pub bounded_write : (q : Asked) → Bounded n (write_work cells opened q rows list).rows
  bounded_write q = bounded_told (Begun q) (begun_lowers q) _ _ (tells.write cells opened q rows list long)

-- a cell that is emptied, and a table just made
pub bounded_empty : (n k : ℕ) (rows : List (List Row)) → Bounded n rows → Bounded n (set rows k [])
bounded_empty n k rows b j = go (cases_eq j k) (cases_lt k (length rows))
  where
    go : (j ≡ k) ⊎ (j ≡ k → ⊥) → (k < length rows) ⊎ (length rows ≤ k) → peak (get_or (set rows k []) j []) ≤ n
    go (inr ne) c = rw (get_or-set_other rows k j [] [] ne) (b j)
    go (inl e) (inl lt) = rw (e, get_or-set_same rows k [] [] lt) (omega arith)
    go (inl e) (inr le) = rw (set_past rows k [] le) (b j)

abbrev no_rows : Cell → List Row
no_rows c = []

pub none_at : (cells : List Cell) (k : ℕ) → get_or (map no_rows cells) k [] ≡ []
none_at [] k = refl
none_at (c ∷ cs) zero = refl
none_at (c ∷ cs) (suc k) = none_at cs k

pub bounded_none : (n : ℕ) (cells : List Cell) → Bounded n (map (λ _. []) cells)
bounded_none n cells k = rw (none_at cells k) (omega arith)
