-- Every reply can be spelt: each list has as many entries as it may, and all in all there are at most 2,048 octets.
use Rattle.std.specs.Prelude.{◌≡◌, ℕ, ◌<◌, ◌≤◌, Bool, true, List, map, length}
use Rattle.answers.specs.Answers.{AnswerV, error, keep_alive_complete}
use Rattle.cells.specs.declared.cell.Cell.{Cell}
use Rattle.elements.specs.declared.cause.Cause.{Cause}
use Rattle.elements.specs.declared.faults.Fault.{Fault}
use Rattle.elements.specs.declared.recovery.Recovery.{Recovery}
use Rattle.cbsp.specs.Octets.{put}
use Rattle.lists.specs.CellLists.{CellsV, cells_fit}
use Rattle.messages.specs.Messages.{answer, error_for, spell}
use Rattle.outcomes.specs.Works.{kill_work, query_work, reset_work, write_work}
use Rattle.requests.specs.Requests.{ReferenceV, WriteReplaceV, reference, writing}
use Rattle.rows.specs.declared.key.Key.{Key}
use Rattle.rows.specs.declared.row.Row.{Row}
use Rattle.table.specs.declared.asked.Asked.{Asked}
use Rattle.writing.specs.Writing.{spellable}
use Rattle.answering.specs.Replies.{begun_list, completed_list, failed_list, write_reply, kill_reply, query_reply, reset_reply, entry_of, restart_for, failure_for}

abbrev pub Spelt : AnswerV → Type 0
Spelt a = spellable (answer a) ≡ true

-- an answer stands at the start of a space: how long it is, and the space after it
pub record Sent (a : AnswerV) (n : ℕ) (was is : List ℕ) : Type 0 where
  pub len : n ≡ length (spell (answer a))
  pub octets : is ≡ put (spell (answer a)) 0 was

-- over 1 to 64 cells, and requests that can be read
pub record RepliesFit : Type 0 where
  pub write : (cells : List Cell) (opened : ℕ → Bool) (q : Asked) (rows : List (List Row)) (w : WriteReplaceV) → length rows ≡ length cells → length cells ≤ 64 → writing.fits w ≡ true
      → Spelt (write_reply w (begun_list cells (write_work cells opened q rows w.cells).out) (completed_list cells (write_work cells opened q rows w.cells).out) (failed_list cells (write_work cells opened q rows w.cells).out))
  pub kill : (cells : List Cell) (opened : ℕ → Bool) (key : Key) (rows : List (List Row)) (r : ReferenceV) → length rows ≡ length cells → length cells ≤ 64 → reference.fits r ≡ true
      → Spelt (kill_reply r (completed_list cells (kill_work cells opened key rows r.cells).out) (failed_list cells (kill_work cells opened key rows r.cells).out))
  pub query : (cells : List Cell) (opened : ℕ → Bool) (key : Key) (rows : List (List Row)) (r : ReferenceV) → length rows ≡ length cells → length cells ≤ 64 → reference.fits r ≡ true
      → Spelt (query_reply r (completed_list cells (query_work cells opened key rows r.cells).out) (failed_list cells (query_work cells opened key rows r.cells).out))
  pub reset : (cells : List Cell) (opened : ℕ → Bool) (rows : List (List Row)) (list : CellsV) → length rows ≡ length cells → length cells ≤ 64 → cells_fit list ≡ true
      → Spelt (reset_reply (begun_list cells (reset_work cells opened rows list).out) (failed_list cells (reset_work cells opened rows list).out))
  pub restart : (cells : List Cell) (recovery : Recovery) → 0 < length cells → length cells ≤ 64 → Spelt (restart_for (map entry_of cells) recovery)
  pub failure : (cells : List Cell) (k : ℕ) (cause : Cause) → Spelt (failure_for cells k cause)
  pub fault : (f : Fault) → Spelt (error (error_for f))
  pub alive : Spelt (keep_alive_complete tt)
