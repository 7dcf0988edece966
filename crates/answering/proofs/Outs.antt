-- The lists of a reply fit, from what came of its request.
use Rattle.std.proofs.Common.{◌≡◌, ℕ, ◌+◌, ◌*◌, ◌<◌, ◌≤◌, Bool, true, List, [], ◌∷◌, map, length, get_or, Some, None, Option, sym, refl, ap, subst, arith}
use Rattle.std.proofs.ByRecursion.{All-map, All-push}
use Rattle.std.proofs.lemmas.List.{length-map}
use Rattle.std.specs.List.{AllByRecursion}
use Rattle.cells.specs.declared.cell.Cell.{Cell}
use Rattle.elements.specs.declared.cause.Cause.{Cause}
use Rattle.elements.specs.Codec.{element}
use Rattle.lists.specs.declared.cell.CellIdentity.{CellIdentity}
use Rattle.lists.specs.CellLists.{CellsV}
use Rattle.lists.specs.Entries.{Entry, Kind, own_form}
use Rattle.lists.specs.Lists.{entry_list}
use Rattle.lists.specs.Parts.{completed, failures}
use Rattle.lists.specs.Kinds.{failed_meant, cell_kind, cell_meant, cell_sound, completed_kind, completed_meant, completed_sound}
use Rattle.lists.proofs.Named.{ByName}
use Rattle.naming.specs.declared.naming.Naming.{Naming}
use Rattle.naming.specs.declared.naming.Naming.TheVariants as naming
use Rattle.naming.specs.Namings.{named_by, namings}
use Rattle.outcomes.specs.Tells.{AllSound, SoundFor, cell_count, of_cell}
use Rattle.outcomes.specs.Works.{query_work}
use Rattle.replies.specs.Lists.{begun_by, begun_entry, completed_entry, failed_by, failed_entry, picked, whom_in}
use Rattle.rows.specs.declared.key.Key.{Key}
use Rattle.rows.specs.declared.row.Row.{Row}
use Rattle.rows.specs.Keys.{first_of, is_same}
use Rattle.table.specs.declared.outcome.Outcome.{Outcome}
use Rattle.table.specs.declared.references.Query.{Query}
use Rattle.table.specs.Acts.{Acts}
use Rattle.table.specs.Handling.{Stage, comes_of, handled, stage, step_on}
use Rattle.table.specs.Outcomes.{no_cell, outcome}
use Rattle.table.specs.References.{counted, query_acts}
use Rattle.answering.specs.Replies.{begun_list, completed_list, failed_list}
use Rattle.answering.proofs.Listing.{room_failures, room_named}
use Rattle.answering.proofs.Picks.{Either, OfCell, first_some, picked_cells, picked_few}
use Rattle.answering.proofs.Rooms.{Room}

-- what holds of every outcome of a cell and of every entry that names none, holds of all
module _ (cells : List Cell) (T : Outcome → Type 0) (of-cell : (k : ℕ) (ended : Option ℕ) (cause : Option Cause) → T (outcome k ended cause)) (of_none : (e : CellIdentity) → T (no_cell e)) where
  one_sound : (o : Outcome) (os : List Outcome) (w : Naming) → o.whom ≡ w → SoundFor cells o os w → T o
  one_sound o os (naming.Cell k) e s =
      subst T (sym (ap (λ (n : Naming). record { whom = n; ended = o.ended; cause = o.cause }) e)) (of-cell k o.ended o.cause)
  one_sound o os (naming.NoCell n) e s = subst T (sym s.0) (of_none n)

  pub all_sound : (out : List Outcome) → AllSound cells out → AllByRecursion T out
  all_sound [] s = tt
  all_sound (o ∷ os) s = (one_sound o os o.whom refl s.0, all_sound os s.1)

-- a list of entries of cells alone
module _ (cells : List Cell) {X : Type 0} (k : Kind) (meant : X → Entry) (entry : Outcome → Option X) (id w : ℕ) (forms : k.forms 1 ≡ true) (width : w ≡ length (own_form k.headed 1) + 4 + k.tail) (most : 64 ≤ k.most) where
  abbrev Good : Outcome → Type 0
  Good o = OfCell (λ x. ByName k (meant x)) (of_cell o.whom) (entry o)

  room_of_cells :
      ((i : ℕ) (ended : Option ℕ) (cause : Option Cause) → Good (outcome i ended cause)) → ((e : CellIdentity) → Good (no_cell e))
      → (out : List Outcome) → AllSound cells out → cell_count out ≤ 64 → 1 ≤ length (map meant (picked entry out))
      → Room (element id (entry_list k)) (map meant (picked entry out)) (4 + 64 * w)
  room_of_cells of-cell of_none out s c l =
      let p = picked_cells entry (λ x. ByName k (meant x)) out (all_sound cells Good of-cell of_none out s) in
      room_named k id w (map meant (picked entry out)) forms width most (All-map (ByName k) meant (picked entry out) p.0) l
      (simp length-map (omega arith))

module _ (cells : List Cell) where
  begun_good : (i : ℕ) (ended : Option ℕ) (cause : Option Cause) → OfCell (λ x. ByName cell_kind (cell_meant x)) 1 (begun_entry cells (outcome i ended cause))
  begun_good i ended None = (refl, record { form = refl; good = cell_sound _ })
  begun_good i ended (Some c) = tt

  completed_good : (i : ℕ) (ended : Option ℕ) (cause : Option Cause) → OfCell (λ x. ByName completed_kind (completed_meant x)) 1 (completed_entry cells (outcome i ended cause))
  completed_good i None cause = tt
  completed_good i (Some n) cause = (refl, record { form = refl; good = completed_sound _ })

  module _ (out : List Outcome) (s : AllSound cells out) (c : cell_count out ≤ 64) where
    pub room_begun : 1 ≤ length (begun_list cells out) → Room (element 4 (entry_list cell_kind)) (begun_list cells out) 260
    room_begun l = room_of_cells cells cell_kind cell_meant (begun_entry cells) 4 4 refl refl (omega arith) begun_good (λ _. tt) out s c l

    pub room_completed : 1 ≤ length (completed_list cells out) → Room completed (completed_list cells out) 452
    room_completed l = room_of_cells cells completed_kind completed_meant (completed_entry cells) 8 7 refl refl (omega arith) completed_good (λ _. tt) out s c l

  pub room_failed : (out : List Outcome) → length out ≤ 192 → 1 ≤ length (failed_list cells out) → Room failures (failed_list cells out) 1155
  room_failed out c l =
      let n = length-map (picked (failed_entry cells) out) failed_meant in
      room_failures (picked (failed_entry cells) out) (omega arith) (omega (arith, picked_few (failed_entry cells) out))

-- what holds of whatever comes of a naming, holds of all that came
module _ {R : Type 0} (acts : Acts R) (cells : List Cell) (opened : ℕ → Bool) (T : Outcome → Type 0) (each : (q : R) (rows : List (List Row)) (n : Naming) → T (comes_of acts cells opened q rows n)) where
  pub handled_all : (s : Stage R) (ns : List Naming) → AllByRecursion T s.out → AllByRecursion T (handled acts cells opened s ns).out
  handled_all s [] a = a
  handled_all s (n ∷ ns) a = handled_all (step_on acts cells opened s n) ns (All-push T s.out _ a (each s.request s.rows n))

-- each outcome begins or fails; each of a query has a count or fails
module _ (cells : List Cell) where
  begun_or_failed : (e : CellIdentity) (cause : Option Cause) → Either (begun_by e cause) (failed_by e cause)
  begun_or_failed e None = tt
  begun_or_failed e (Some c) = tt

  all_begun_or_failed : (out : List Outcome) → AllByRecursion (λ o. Either (begun_entry cells o) (failed_entry cells o)) out
  all_begun_or_failed [] = tt
  all_begun_or_failed (o ∷ os) = (begun_or_failed (whom_in cells o.whom) o.cause, all_begun_or_failed os)

  abbrev CountedOrFailed : Outcome → Type 0
  CountedOrFailed o = Either (completed_entry cells o) (failed_entry cells o)

  counted_or_failed : (k : ℕ) (r : Option Row) → CountedOrFailed (counted k r)
  counted_or_failed k None = tt
  counted_or_failed k (Some r) = tt

  queried : (opened : ℕ → Bool) (q : Query) (rows : List (List Row)) (n : Naming) → CountedOrFailed (comes_of query_acts cells opened q rows n)
  queried opened q rows (naming.Cell k) = counted_or_failed k (first_of (is_same q.key) (get_or rows k []))
  queried opened q rows (naming.NoCell e) = tt

  -- so where none failed, there is a first
  module _ {X : Type 0} (entry : Outcome → Option X) (meant : X → Entry) (out : List Outcome) (some : 0 < length out) where
    pub other_some : AllByRecursion (λ o. Either (entry o) (failed_entry cells o)) out → length (failed_list cells out) ≡ 0 → 1 ≤ length (map meant (picked entry out))
    other_some a e = simp length-map (first_some entry (failed_entry cells) out a some (simp length-map at e))

  pub begun_some : (out : List Outcome) → 0 < length out → length (failed_list cells out) ≡ 0 → 1 ≤ length (begun_list cells out)
  begun_some out l e = other_some (begun_entry cells) cell_meant out l (all_begun_or_failed out) e

  pub counted_some :
      (opened : ℕ → Bool) (key : Key) (rows : List (List Row)) (list : CellsV) → let out = (query_work cells opened key rows list).out in
      0 < length out → length (failed_list cells out) ≡ 0 → 1 ≤ length (completed_list cells out)
  counted_some opened key rows list l e =
      other_some (completed_entry cells) completed_meant (query_work cells opened key rows list).out l
      (handled_all query_acts cells opened CountedOrFailed (queried opened) (stage (record { key = key }) rows []) (namings cells (named_by list)) tt) e
