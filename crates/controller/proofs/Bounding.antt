-- No request raises a count: what bounds the counts before it bounds them after it.
use Rattle.std.proofs.Common.{◌≡◌, ℕ, Bool, sym, subst}
use Rattle.answering.specs.Handled.{asked_by, key_by}
use Rattle.law.proofs.Bounds.{bounded_kill, bounded_query, bounded_reset, bounded_write}
use Rattle.law.specs.Bound.{Bounded}
use Rattle.lists.specs.CellLists.{CellsV}
use Rattle.outcomes.proofs.Telling.{outcomes_tell}
use Rattle.requests.specs.Requests.{ReferenceV, WriteReplaceV}
use Rattle.store.proofs.Held.{rows_known}
use Rattle.store.specs.Answered.{killing, querying, replacing, resetting}
use Rattle.store.specs.declared.store.Store.{Store}
use Rattle.store.specs.Held.{cells_held, rows_held}

module _ (s t : Store) (opened : ℕ → Bool) (n : ℕ) (b : Bounded n (rows_held s)) where
  pub kill_bounded : (r : ReferenceV) → rows_held t ≡ (killing s opened r).rows → Bounded n (rows_held t)
  kill_bounded r e =
      subst (Bounded n) (sym e) (bounded_kill outcomes_tell (cells_held s) opened (rows_held s) r.cells n (rows_known s) b (key_by r))

  pub query_bounded : (r : ReferenceV) → rows_held t ≡ (querying s opened r).rows → Bounded n (rows_held t)
  query_bounded r e =
      subst (Bounded n) (sym e) (bounded_query outcomes_tell (cells_held s) opened (rows_held s) r.cells n (rows_known s) b (key_by r))

  pub reset_bounded : (list : CellsV) → rows_held t ≡ (resetting s opened list).rows → Bounded n (rows_held t)
  reset_bounded list e =
      subst (Bounded n) (sym e) (bounded_reset outcomes_tell (cells_held s) opened (rows_held s) list n (rows_known s) b)

  pub write_bounded : (w : WriteReplaceV) → rows_held t ≡ (replacing s opened w).rows → Bounded n (rows_held t)
  write_bounded w e =
      subst (Bounded n) (sym e) (bounded_write outcomes_tell (cells_held s) opened (rows_held s) w.cells n (rows_known s) b (asked_by w))
