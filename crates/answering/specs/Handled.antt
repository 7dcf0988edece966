-- What each request asks, and the answer to it from what came of it in the cells.
use Rattle.std.specs.Prelude.{ℕ, List, Some, None, Option, slice_set}
use Rattle.answers.specs.Answers.{AnswerV}
use Rattle.cells.specs.declared.cell.Cell.{Cell}
use Rattle.requests.specs.Requests.{ReferenceV, WriteReplaceV}
use Rattle.rows.specs.declared.key.Key.{Key}
use Rattle.rows.specs.Keys.{key_of}
use Rattle.rows.specs.Texts.{Text}
use Rattle.table.specs.declared.asked.Asked.{Asked}
use Rattle.table.specs.declared.outcome.Outcome.{Outcome}
use Rattle.answering.specs.Replies.{begun_list, completed_list, failed_list, write_reply, kill_reply, query_reply, reset_reply}

-- what a WRITE-REPLACE asks in every cell
abbrev pub asked_by : WriteReplaceV → Asked
asked_by w =
    record { channel = w.channel; identifier = w.identifier; serial = w.new_serial; old = w.old_serial; period = w.period; requested = w.broadcasts }

-- the message that a KILL or a query means
abbrev pub key_by : ReferenceV → Key
key_by r = key_of r.channel r.identifier r.serial

-- the replies, from what came of the requests in the cells
module _ (cells : List Cell) where
  abbrev pub write_answer : WriteReplaceV → List Outcome → AnswerV
  write_answer w out = write_reply w (begun_list cells out) (completed_list cells out) (failed_list cells out)

  abbrev pub kill_answer : ReferenceV → List Outcome → AnswerV
  kill_answer r out = kill_reply r (completed_list cells out) (failed_list cells out)

  abbrev pub query_answer : ReferenceV → List Outcome → AnswerV
  query_answer r out = query_reply r (completed_list cells out) (failed_list cells out)

  abbrev pub reset_answer : List Outcome → AnswerV
  reset_answer out = reset_reply (begun_list cells out) (failed_list cells out)

-- a content in a slot
abbrev pub with_text : Option ℕ → Text → List Text → List Text
with_text None text texts = texts
with_text (Some slot) text texts = slice_set texts slot text
