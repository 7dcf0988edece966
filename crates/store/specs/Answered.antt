-- A store after a request.
use Rattle.std.specs.Prelude.{◌≡◌, ℕ, Bool, List, replicate}
use Rattle.answering.specs.Fitting.{Sent}
use Rattle.answering.specs.Handled.{asked_by, key_by, kill_answer, query_answer, reset_answer, with_text, write_answer}
use Rattle.answers.specs.Answers.{AnswerV}
use Rattle.lists.specs.CellLists.{CellsV}
use Rattle.outcomes.specs.Works.{kill_work, query_work, reset_work, write_work}
use Rattle.requests.specs.Requests.{ReferenceV, WriteReplaceV}
use Rattle.rows.specs.declared.row.Row.{Row}
use Rattle.rows.specs.Texts.{Text}
use Rattle.table.specs.declared.references.Kill.{Kill}
use Rattle.table.specs.declared.references.Query.{Query}
use Rattle.table.specs.declared.references.Reset.{Reset}
use Rattle.table.specs.declared.write.Write.{Write}
use Rattle.table.specs.Handling.{Stage}
use Rattle.table.specs.Storing.{stored}
use Rattle.store.specs.declared.store.Store.{Store}
use Rattle.store.specs.Held.{cells_held, rows_held, texts_held}

-- the cells and the contents stay
pub record Kept (was is : Store) : Type 0 where
  pub cells : cells_held is ≡ cells_held was
  pub texts : texts_held is ≡ texts_held was

-- the cells stay, with such messages and contents; the answer is sent, n octets into the space that was `before`; the marks are clear
pub record Answered (was is : Store) (rs : List (List Row)) (ts : List Text) (a : AnswerV) (n : ℕ) (before after marks : List ℕ) : Type 0 where
  pub cells : cells_held is ≡ cells_held was
  pub rows : rows_held is ≡ rs
  pub texts : texts_held is ≡ ts
  pub sent : Sent a n before after
  pub clear : marks ≡ replicate 64 0

-- what each request comes to, in the cells of a store of which those are open
module _ (s : Store) (opened : ℕ → Bool) where
  abbrev pub killing : ReferenceV → Stage Kill
  killing r = kill_work (cells_held s) opened (key_by r) (rows_held s) r.cells

  abbrev pub querying : ReferenceV → Stage Query
  querying r = query_work (cells_held s) opened (key_by r) (rows_held s) r.cells

  abbrev pub resetting : CellsV → Stage Reset
  resetting list = reset_work (cells_held s) opened (rows_held s) list

  abbrev pub replacing : WriteReplaceV → Stage Write
  replacing w = write_work (cells_held s) opened (asked_by w) (rows_held s) w.cells

  -- the store after it, the length of the answer, the space before and after, and the marks after
  abbrev pub Killed : ReferenceV → Store → ℕ → List ℕ → List ℕ → List ℕ → Type 0
  Killed r t n before after marks = Answered s t (killing r).rows (texts_held s) (kill_answer (cells_held s) r (killing r).out) n before after marks

  abbrev pub Queried : ReferenceV → Store → ℕ → List ℕ → List ℕ → List ℕ → Type 0
  Queried r t n before after marks = Answered s t (querying r).rows (texts_held s) (query_answer (cells_held s) r (querying r).out) n before after marks

  abbrev pub WasReset : CellsV → Store → ℕ → List ℕ → List ℕ → List ℕ → Type 0
  WasReset list t n before after marks = Answered s t (resetting list).rows (texts_held s) (reset_answer (cells_held s) (resetting list).out) n before after marks

  abbrev pub Replaced : WriteReplaceV → Store → ℕ → List ℕ → List ℕ → List ℕ → Type 0
  Replaced w t n before after marks =
      Answered s t (replacing w).rows (with_text (replacing w).request.slot (stored w.coding w.pages) (texts_held s)) (write_answer (cells_held s) w (replacing w).out) n before after marks
