-- Replies from the lists that were worked out can be spelt.
use Rattle.std.proofs.Common.{◌≡◌, ℕ, ◌≤◌, Bool, true, List, map, length, sym, ap, ◌∙◌, subst}
use Rattle.answers.specs.Answers.{AnswerV}
use Rattle.answering.proofs.Fits.{replies_fit}
use Rattle.answering.specs.Fitting.{RepliesFit, Spelt}
use Rattle.answering.specs.Replies.{kill_reply, query_reply, reset_reply, write_reply}
use Rattle.lists.specs.CellLists.{CellsV, cells_fit}
use Rattle.lists.specs.Kinds.{cell_meant, completed_meant, failed_meant}
use Rattle.lists.specs.declared.kinds.CellEntry.{CellEntry}
use Rattle.lists.specs.declared.kinds.CompletedEntry.{CompletedEntry}
use Rattle.lists.specs.declared.kinds.FailedEntry.{FailedEntry}
use Rattle.outcomes.proofs.Telling.{outcomes_tell}
use Rattle.outcomes.specs.Works.{kill_work, query_work, reset_work, write_work}
use Rattle.replies.specs.declared.work.Work.{Work}
use Rattle.replies.specs.Lists.{begun_entry, picked}
use Rattle.replies.specs.Worked.{Ran}
use Rattle.requests.specs.Requests.{ReferenceV, WriteReplaceV, reference, writing}
use Rattle.rows.specs.declared.key.Key.{Key}
use Rattle.rows.specs.declared.row.Row.{Row}
use Rattle.table.specs.declared.asked.Asked.{Asked}
use Rattle.table.specs.declared.references.Kill.{Kill}
use Rattle.table.specs.declared.references.Query.{Query}
use Rattle.table.specs.declared.references.Reset.{Reset}
use Rattle.table.specs.declared.write.Write.{Write}
use Rattle.store.specs.declared.store.Store.{Store}
use Rattle.store.specs.Held.{cells_held, rows_held}
use Rattle.store.proofs.Held.{rows_known}

pub fits : RepliesFit
fits = replies_fit outcomes_tell

-- a reply made of two lists, and the same of what these are
spelt_two : {X Y : Type 0} (f : X → Y → AnswerV) (a : AnswerV) (x x' : X) (y y' : Y) → a ≡ f x y → x ≡ x' → y ≡ y' → Spelt (f x' y') → Spelt a
spelt_two {X} {Y} f a x x' y y' e p q s = subst Spelt (sym (e ∙ ap (λ (z : X). f z y) p ∙ ap (λ (z : Y). f x' z) q)) s

-- a request has run over a store, its reply is made of lists, and these are those of the memory
module _ (s : Store) (opened : ℕ → Bool) (few : length (cells_held s) ≤ 64) {rs : List (List Row)} {w : Work} (a : AnswerV) where
  pub kill_spelt :
      (r : ReferenceV) (key : Key) (q : Kill) (x : List CompletedEntry) (y : List FailedEntry) → reference.fits r ≡ true
      → Ran (cells_held s) (kill_work (cells_held s) opened key (rows_held s) r.cells) q rs w → x ≡ w.completed → y ≡ w.failed
      → a ≡ kill_reply r (map completed_meant x) (map failed_meant y) → Spelt a
  kill_spelt r key q x y f ran ex ey e =
      spelt_two (λ x y. kill_reply r (map completed_meant x) (map failed_meant y)) a x _ y _ e (ex ∙ ran.completed) (ey ∙ ran.failed)
      (fits.kill (cells_held s) opened key (rows_held s) r (rows_known s) few f)

  pub query_spelt :
      (r : ReferenceV) (key : Key) (q : Query) (x : List CompletedEntry) (y : List FailedEntry) → reference.fits r ≡ true
      → Ran (cells_held s) (query_work (cells_held s) opened key (rows_held s) r.cells) q rs w → x ≡ w.completed → y ≡ w.failed
      → a ≡ query_reply r (map completed_meant x) (map failed_meant y) → Spelt a
  query_spelt r key q x y f ran ex ey e =
      spelt_two (λ x y. query_reply r (map completed_meant x) (map failed_meant y)) a x _ y _ e (ex ∙ ran.completed) (ey ∙ ran.failed)
      (fits.query (cells_held s) opened key (rows_held s) r (rows_known s) few f)

  pub reset_spelt :
      (list : CellsV) (q : Reset) (x : List CellEntry) (y : List FailedEntry) → cells_fit list ≡ true
      → Ran (cells_held s) (reset_work (cells_held s) opened (rows_held s) list) q rs w → x ≡ w.begun → y ≡ w.failed
      → a ≡ reset_reply (map cell_meant x) (map failed_meant y) → Spelt a
  reset_spelt list q x y f ran ex ey e =
      spelt_two (λ x y. reset_reply (map cell_meant x) (map failed_meant y)) a x _ y _ e (ex ∙ ran.begun) (ey ∙ ran.failed)
      (fits.reset (cells_held s) opened (rows_held s) list (rows_known s) few f)

  pub write_spelt :
      (r : WriteReplaceV) (asked : Asked) (q : Write) (b : List CellEntry) (x : List CompletedEntry) (y : List FailedEntry) → writing.fits r ≡ true
      → Ran (cells_held s) (write_work (cells_held s) opened asked (rows_held s) r.cells) q rs w → b ≡ w.begun → x ≡ w.completed → y ≡ w.failed
      → a ≡ write_reply r (map cell_meant b) (map completed_meant x) (map failed_meant y) → Spelt a
  write_spelt r asked q b x y f ran eb ex ey e =
      spelt_two (λ x y. write_reply r (map cell_meant (picked (begun_entry (cells_held s)) (write_work (cells_held s) opened asked (rows_held s) r.cells).out)) (map completed_meant x) (map failed_meant y)) a x _ y _
      (e ∙ ap (λ (z : List CellEntry). write_reply r (map cell_meant z) (map completed_meant x) (map failed_meant y)) (eb ∙ ran.begun))
      (ex ∙ ran.completed) (ey ∙ ran.failed) (fits.write (cells_held s) opened asked (rows_held s) r (rows_known s) few f)
