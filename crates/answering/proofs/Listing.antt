-- Lists of entries that fit, and how many octets they have at most.
use Rattle.std.proofs.Common.{◌≡◌, ℕ, ◌+◌, ◌*◌, ◌≤◌, Bool, true, false, List, [], ◌∷◌, map, length, refl, mul-le-mul_right, arith, length-append}
use Rattle.std.proofs.lemmas.List.{length-map}
use Rattle.std.proofs.lemmas.Bool.{and_from, le-leb}
use Rattle.std.specs.List.{AllByRecursion}
use Rattle.elements.specs.Codec.{element, optional}
use Rattle.lists.specs.declared.cell.CellIdentity.{CellIdentity}
use Rattle.lists.specs.declared.cell.CellIdentity.TheVariants as cell
use Rattle.lists.specs.declared.kinds.FailedEntry.{FailedEntry}
use Rattle.lists.specs.Cells.{cell_octets, form_of}
use Rattle.lists.specs.Entries.{Entry, Kind, entry_fits, own_form, spell_entries, spell_entry}
use Rattle.lists.specs.Kinds.{cell_kind, failed_kind, failed_meant, failed_sound}
use Rattle.lists.specs.Lists.{entry_list, every, head_form, led_by, list_octets}
use Rattle.lists.specs.CellLists.{cell_list, named}
use Rattle.lists.specs.Parts.{cells, failures, may_cells}
use Rattle.lists.proofs.Named.{ByName, named_fits, named_wide}
use Rattle.answering.specs.Replies.{some_cells, some_list}
use Rattle.answering.proofs.Rooms.{Room, room_none, room_some}

led_one : (b : Bool) (d : ℕ) → length (led_by b d) ≤ 1
led_one true d = omega arith
led_one false d = omega arith

-- 1 to 64 entries by location area code and cell identity, each of w octets
pub room_named :
    (k : Kind) (id w : ℕ) (es : List Entry) → k.forms 1 ≡ true → w ≡ length (own_form k.headed 1) + 4 + k.tail → 64 ≤ k.most
    → AllByRecursion (ByName k) es → 1 ≤ length es → length es ≤ 64 → Room (element id (entry_list k)) es (4 + 64 * w)
room_named k id w es f q m a l u =
    let wide : length (list_octets k es) ≤ 1 + 64 * w =
    omega (arith, length-append (led_by k.headed (head_form es)) (spell_entries k es), led_one k.headed (head_form es), named_wide k es w q a, mul-le-mul_right w u) in
    record { fit = named_fits k es f a l (omega arith); wide = omega arith }

-- failures name cells in any way
any_form : (c : CellIdentity) → failed_kind.forms (form_of c) ≡ true
any_form (cell.LacCi l c) = refl
any_form (cell.Ci c) = refl
any_form (cell.Lac l) = refl
any_form cell.All = refl

four_at_most : (c : CellIdentity) → length (cell_octets c) ≤ 4
four_at_most (cell.LacCi l c) = omega arith
four_at_most (cell.Ci c) = omega arith
four_at_most (cell.Lac l) = omega arith
four_at_most cell.All = omega arith

failures_fit : (h : ℕ) (xs : List FailedEntry) → every (entry_fits failed_kind h) (map failed_meant xs) ≡ true
failures_fit h [] = refl
failures_fit h (x ∷ xs) = and_from _ _ (and_from _ _ (any_form x.cell) (failed_sound x).unbroken) (failures_fit h xs)

failures_wide : (xs : List FailedEntry) → length (spell_entries failed_kind (map failed_meant xs)) ≤ length xs * 6
failures_wide [] = omega arith
failures_wide (x ∷ xs) =
    let e = failed_meant x in
    omega (
      arith,
      length-append (spell_entry failed_kind e) (spell_entries failed_kind (map failed_meant xs)),
      length-append (cell_octets x.cell) e.tail,
      four_at_most x.cell,
      failures_wide xs,
    )

-- 1 to 192 failures
pub room_failures : (xs : List FailedEntry) → 1 ≤ length xs → length xs ≤ 192 → Room failures (map failed_meant xs) 1155
room_failures xs l u =
    let n : length (map failed_meant xs) ≡ length xs = length-map xs failed_meant in
    let lo : 1 ≤ length (map failed_meant xs) = omega arith in
    let hi : length (map failed_meant xs) ≤ 192 = omega arith in
    record {
      fit = and_from _ _ (and_from _ _ (le-leb 1 _ lo) (le-leb _ 192 hi)) (failures_fit (head_form (map failed_meant xs)) xs);
      wide = omega (arith, failures_wide xs);
    }

-- a list that is absent where it is empty
pub may_list : (k : Kind) (id n : ℕ) (es : List Entry) → (1 ≤ length es → Room (element id (entry_list k)) es n) → Room (optional id (entry_list k)) (some_list es) n
may_list k id n [] r = room_none id (entry_list k) n
may_list k id n (e ∷ es) r = room_some id (entry_list k) (r (omega arith))

-- a Cell List has the octets of its entries
pub room_cells : (n : ℕ) (es : List Entry) → Room (element 4 (entry_list cell_kind)) es n → Room cells (named es) n
room_cells n es r = record { fit = r.fit; wide = r.wide }

pub may_cells_lem : (n : ℕ) (es : List Entry) → (1 ≤ length es → Room (element 4 (entry_list cell_kind)) es n) → Room may_cells (some_cells es) n
may_cells_lem n [] r = room_none 4 cell_list n
may_cells_lem n (e ∷ es) r = room_some 4 cell_list (room_cells n (e ∷ es) (r (omega arith)))
