-- The calls of the host, why each is refused, and what each answers and does.
use Rattle.std.specs.Prelude.{ℕ, ◌+◌, ◌-◌, ◌*◌, Bool, true, false, cond, not, ◌&&◌, ◌||◌, List, [], ◌∷◌, map, length, Some, None, Ok, Err, Option, Result, ◌==◌, nat_lt, slice_set}
use Rattle.cbsp.specs.declared.refusal.Refusal.{Refusal}
use Rattle.cbsp.specs.declared.refusal.Refusal.TheVariants as refusal
use Rattle.cbsp.specs.KeepAlive.{seconds_of}
use Rattle.cells.specs.declared.cell.Cell.{Cell}
use Rattle.elements.specs.declared.cause.Cause.TheVariants.{CellBroadcastNotOperational}
use Rattle.elements.specs.declared.faults.Fault.{Fault}
use Rattle.elements.specs.declared.recovery.Recovery.{Recovery}
use Rattle.elements.specs.declared.recovery.Recovery.TheVariants.{Available, Lost}
use Rattle.elements.specs.Octets.{mapped}
use Rattle.lists.specs.Entries.{Entry}
use Rattle.replies.specs.Lists.{identity_at}
use Rattle.requests.specs.Requests.{RequestV, WriteReplaceV, write_replace, kill, status_query, reset, keep_alive, read_request}
use Rattle.answers.specs.Answers.{AnswerV, error, keep_alive_complete}
use Rattle.messages.specs.Messages.{answer, error_for, spell, whole_message}
use Rattle.rows.specs.declared.row.Row.{Row}
use Rattle.table.specs.declared.write.Write.{Write}
use Rattle.table.specs.Handling.{Stage}
use Rattle.table.specs.Storing.{stored}
use Rattle.outcomes.specs.Works.{kill_work, query_work, reset_work, write_work}
use Rattle.answering.specs.Handled.{asked_by, key_by, with_text, write_answer, kill_answer, query_answer, reset_answer}
use Rattle.answering.specs.Replies.{entry_of, restart_for, failure_for}
use Rattle.law.specs.State.{Alive, State, with_rows, with_link, with_alive}

-- a call, with what the host lends: a link by its number, the octets of a message, how many octets of marks and of reply space
pub data Call : Type 0 where
  opening : Call
  -- link, reply space
  announcing : ℕ → ℕ → Call
  -- link, message, marks, reply space
  messaging : ℕ → List ℕ → ℕ → ℕ → Call
  period : Call
  -- link, cell, reply space
  losing : ℕ → ℕ → ℕ → Call
  -- link, cell, whether its messages are there still, reply space
  returning : ℕ → ℕ → Recovery → ℕ → Call
  -- link
  shutting : ℕ → Call

-- the refusal of the first condition that holds
abbrev pub first_refusal : List (Bool × Refusal) → Option Refusal
first_refusal [] = None
first_refusal (c ∷ cs) = cond c.0 (Some c.1) (first_refusal cs)

abbrev pub no_space : ℕ → Bool × Refusal
no_space space = (nat_lt space 2048, refusal.ReplySpaceTooSmall)

abbrev pub is_stale : ℕ → State → Bool
is_stale link t = not (link == t.openings)

-- the link is stale, or the table is not announced
abbrev pub not_open : ℕ → State → Bool × Refusal
not_open link t = (is_stale link t || not t.announced, refusal.LinkNotCurrent)

abbrev pub no_cell : ℕ → State → Bool × Refusal
no_cell k t = (not (nat_lt k (length t.cells)), refusal.NoSuchCell)

-- octets that are not one whole message: over 2,048, or of another number than the header says
abbrev pub is_err : {A : Type 0} → Result A Refusal → Bool
is_err (Ok a) = false
is_err (Err r) = true

abbrev pub not_whole : List ℕ → Bool × Refusal
not_whole octets = (is_err (whole_message octets), refusal.MessageNotWhole)

abbrev pub too_long : List ℕ → Bool × Refusal
too_long octets = (nat_lt 2048 (length octets), refusal.MessageTooLong)

-- why a call is refused, where cells are open at the site as `opened` says: conditions in the order of their numbers
abbrev pub refusal_of : Call → State → (ℕ → Bool) → Option Refusal
refusal_of opening t opened = first_refusal (((t.openings == 65535), refusal.OpeningsUsedUp) ∷ [])
refusal_of (announcing link space) t opened = first_refusal (no_space space ∷ (is_stale link t, refusal.LinkNotCurrent) ∷ [])
refusal_of (messaging link octets marks space) t opened =
    first_refusal (no_space space ∷ (not (marks == 64), refusal.WrongMarkCount) ∷ too_long octets ∷ not_whole octets ∷ not_open link t ∷ [])
refusal_of period t opened = first_refusal (((t.periods == 4294967295), refusal.PeriodsUsedUp) ∷ [])
refusal_of (losing link k space) t opened =
    first_refusal (no_space space ∷ not_open link t ∷ no_cell k t ∷ (not (opened k), refusal.CellAlreadySo) ∷ [])
refusal_of (returning link k recovery space) t opened =
    first_refusal (no_space space ∷ not_open link t ∷ no_cell k t ∷ (opened k, refusal.CellAlreadySo) ∷ [])
refusal_of (shutting link) t opened = None

-- the table after a call, the reply, and the fault of a message that could not be read
pub record Reaction : Type 0 where
  pub table : State
  pub reply : Option AnswerV
  pub fault : Option Fault

abbrev pub replied : State → AnswerV → Reaction
replied t a = record { table = t; reply = Some a; fault = None }

abbrev pub silently : State → Reaction
silently t = record { table = t; reply = None; fault = None }

abbrev pub wrote : State → WriteReplaceV → Stage Write → Reaction
wrote t w s =
    replied
    (with_rows t s.rows (with_text s.request.slot (stored w.coding w.pages) t.texts))
    (write_answer t.cells w s.out)

-- what a message comes to
abbrev pub answered : State → (ℕ → Bool) → Result RequestV Fault → Reaction
answered t opened (Err f) = record { table = t; reply = Some (error (error_for f)); fault = Some f }
answered t opened (Ok (write_replace w)) = wrote t w (write_work t.cells opened (asked_by w) t.rows w.cells)
answered t opened (Ok (kill r)) =
    replied
    (with_rows t (kill_work t.cells opened (key_by r) t.rows r.cells).rows t.texts)
    (kill_answer t.cells r (kill_work t.cells opened (key_by r) t.rows r.cells).out)
answered t opened (Ok (status_query r)) =
    replied
    (with_rows t (query_work t.cells opened (key_by r) t.rows r.cells).rows t.texts)
    (query_answer t.cells r (query_work t.cells opened (key_by r) t.rows r.cells).out)
answered t opened (Ok (reset list)) =
    replied
    (with_rows t (reset_work t.cells opened t.rows list).rows t.texts)
    (reset_answer t.cells (reset_work t.cells opened t.rows list).out)
answered t opened (Ok (keep_alive code)) =
    replied (with_alive t (mapped (λ s. record { seconds = s; since = t.periods }) (seconds_of code))) (keep_alive_complete tt)

-- the first announcing of a table says that its messages are lost
abbrev pub recovery_of : Bool → Recovery
recovery_of true = Available
recovery_of false = Lost

abbrev pub emptied_at : Recovery → ℕ → List (List Row) → List (List Row)
emptied_at Available k rows = rows
emptied_at Lost k rows = slice_set rows k []

-- the entry of one cell in a Cell List
abbrev pub entry_at : List Cell → ℕ → Entry
entry_at cells k = record { cell = identity_at cells k; tail = [] }

-- what an accepted call does to the table, and what is sent; a period is told by its own relation
abbrev pub reaction : Call → State → (ℕ → Bool) → Reaction
reaction opening t opened = silently (with_link t (t.openings + 1) false t.ever)
reaction (announcing link space) t opened = replied (with_link t t.openings true true) (restart_for (map entry_of t.cells) (recovery_of t.ever))
reaction (messaging link octets marks space) t opened = answered t opened (read_request octets)
reaction period t opened = silently t
reaction (losing link k space) t opened = replied t (failure_for t.cells k CellBroadcastNotOperational)
reaction (returning link k recovery space) t opened =
    replied (with_rows t (emptied_at recovery k t.rows) t.texts) (restart_for (entry_at t.cells k ∷ []) recovery)
reaction (shutting link) t opened = silently (with_link t t.openings (is_stale link t && t.announced) t.ever)

-- the octets of a reply
abbrev pub octets_of : Option AnswerV → List ℕ
octets_of None = []
octets_of (Some a) = spell (answer a)

-- the next KEEP-ALIVE is overdue: periods since the last one, of 1.883 seconds each, come to more than three times its seconds
abbrev pub overdue_after : ℕ → Option Alive → Bool
overdue_after periods None = false
overdue_after periods (Some a) = nat_lt (3000 * a.seconds) ((periods - a.since) * 1883)

abbrev pub is_overdue : State → Bool
is_overdue t = overdue_after t.periods t.alive
