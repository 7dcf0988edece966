-- Every reply can be spelt, given what came of each request.
use Rattle.std.proofs.Common.{◌≡◌, ℕ, ◌<◌, ◌≤◌, true, leb, List, [], ◌∷◌, map, length, refl, arith}
use Rattle.std.proofs.ByRecursion.{All-map}
use Rattle.std.proofs.lemmas.List.{length-map}
use Rattle.std.proofs.lemmas.Bool.{and_parts, leb-true}
use Rattle.std.specs.List.{AllByRecursion}
use Rattle.cells.specs.declared.cell.Cell.{Cell}
use Rattle.elements.specs.declared.broadcast.BroadcastType.TheVariants.{Ordinary}
use Rattle.elements.specs.declared.cause.Cause.{Cause}
use Rattle.elements.specs.declared.recovery.Recovery.{Recovery}
use Rattle.elements.specs.Codes.{broadcast_code, broadcast_of, recovery_code, recovery_of}
use Rattle.elements.specs.Elements.{within}
use Rattle.lists.specs.CellLists.{CellsV, all, cells_fit, named}
use Rattle.lists.specs.Entries.{Entry}
use Rattle.lists.specs.Kinds.{cell_kind}
use Rattle.lists.proofs.Named.{ByName}
use Rattle.naming.specs.Namings.{named_by}
use Rattle.outcomes.specs.Tells.{OutcomesTell, Tells}
use Rattle.outcomes.specs.Works.{kill_work, query_work, reset_work, write_work}
use Rattle.replies.specs.Lists.{identity_at}
use Rattle.rows.specs.declared.row.Row.{Row}
use Rattle.table.specs.declared.outcome.Outcome.{Outcome}
use Rattle.answering.specs.Fitting.{RepliesFit, Spelt}
use Rattle.answering.specs.Replies.{begun_list, completed_list, entry_of, failed_list, failure_for, restart_for}
use Rattle.answering.proofs.Listing.{room_cells, room_failures, room_named}
use Rattle.answering.proofs.Outs.{begun_some, counted_some, room_begun, room_completed, room_failed}
use Rattle.answering.proofs.Rooms.{room_code, room_seq, spelt_from}
use Rattle.answering.proofs.Spelling.{Begun, Completed, Failed, kill_spelt, query_spelt, reference_fits, reset_spelt, write_fits, write_spelt}

-- a list that can be read has 1 to 128 entries
pub named_some : (list : CellsV) → cells_fit list ≡ true → (0 < length (named_by list)) × (length (named_by list) ≤ 128)
named_some all f = (omega arith, omega arith)
named_some (named es) f =
    let w = (and_parts (within 1 128 (length es)) _ f).0 in
    let b = and_parts (leb 1 (length es)) (leb (length es) 128) w in
    let n = length-map es (λ (e : Entry). e.cell) in
    (omega (arith, leb-true 1 (length es) b.0), omega (arith, leb-true (length es) 128 b.1))

-- the lists of a reply
module _ {cells : List Cell} {list : CellsV} {E : Outcome → List Row → List Row → Type 0} {rows rows' : List (List Row)} {out : List Outcome} (t : Tells cells list E rows rows' out) (few : length cells ≤ 64) (f : cells_fit list ≡ true) where
  begun : Begun (begun_list cells out)
  begun l = room_begun cells out t.sound (t.cells_few few) l

  ended : Completed (completed_list cells out)
  ended l = room_completed cells out t.sound (t.cells_few few) l

  failed : Failed (failed_list cells out)
  failed l = room_failed cells out (t.few few (named_some list f).1) l

  some_came : 0 < length out
  some_came = t.some few (named_some list f).0

all_named : (cells : List Cell) → AllByRecursion (λ c. ByName cell_kind (entry_of c)) cells
all_named [] = tt
all_named (c ∷ cs) = (record { form = refl; good = record { width = refl; unbroken = refl } }, all_named cs)

restart_spelt : (cells : List Cell) (recovery : Recovery) → 0 < length cells → length cells ≤ 64 → Spelt (restart_for (map entry_of cells) recovery)
restart_spelt cells recovery l u =
    let n : length (map entry_of cells) ≡ length cells = length-map cells entry_of in
    let c = room_named cell_kind 4 4 (map entry_of cells) refl refl (omega arith) (All-map (ByName cell_kind) entry_of cells (all_named cells)) (omega arith) (omega arith) in
    let r = room_seq (room_cells 260 (map entry_of cells) c) (room_seq (room_code 22 broadcast_code broadcast_of Ordinary) (room_code 13 recovery_code recovery_of recovery)) in
    spelt_from (restart_for (map entry_of cells) recovery) r.fit (omega (arith, r.wide))

failure_spelt : (cells : List Cell) (k : ℕ) (cause : Cause) → Spelt (failure_for cells k cause)
failure_spelt cells k cause =
    let r = room_seq (room_failures (record { cell = identity_at cells k; cause = cause } ∷ []) (omega arith) (omega arith)) (room_code 22 broadcast_code broadcast_of Ordinary) in
    spelt_from (failure_for cells k cause) r.fit (omega (arith, r.wide))

pub replies_fit : OutcomesTell → RepliesFit
replies_fit tell = record {
  write = λ cells opened q rows w e few f.
      let p = write_fits w f in
      let s = write_work cells opened q rows w.cells in
      let t = tell.write cells opened q rows w.cells e in
      write_spelt w (begun_list cells s.out) (completed_list cells s.out) (failed_list cells s.out) p (begun t few p.cells) (ended t few p.cells) (failed t few p.cells);
  kill = λ cells opened key rows r e few f.
      let p = reference_fits r f in
      let s = kill_work cells opened key rows r.cells in
      let t = tell.kill cells opened key rows r.cells e in
      kill_spelt r (completed_list cells s.out) (failed_list cells s.out) p (ended t few p.cells) (failed t few p.cells);
  query = λ cells opened key rows r e few f.
      let p = reference_fits r f in
      let s = query_work cells opened key rows r.cells in
      let t = tell.query cells opened key rows r.cells e in
      query_spelt r (completed_list cells s.out) (failed_list cells s.out) p (ended t few p.cells) (failed t few p.cells)
      (counted_some cells opened key rows r.cells (some_came t few p.cells));
  reset = λ cells opened rows list e few f.
      let s = reset_work cells opened rows list in
      let t = tell.reset cells opened rows list e in
      reset_spelt (begun_list cells s.out) (failed_list cells s.out) (begun t few f) (failed t few f)
      (begun_some cells s.out (some_came t few f));
  restart = restart_spelt;
  failure = failure_spelt;
  fault = λ _. refl;
  alive = refl;
}
