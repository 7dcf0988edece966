-- What KILL, MESSAGE STATUS QUERY and RESET come to in one cell.
use Rattle.std.specs.Prelude.{ℕ, List, [], Some, None, Option}
use Rattle.elements.specs.declared.cause.Cause.TheVariants.{MessageReferenceNotIdentified}
use Rattle.rows.specs.declared.row.Row.{Row}
use Rattle.rows.specs.declared.key.Key.{Key}
use Rattle.rows.specs.Keys.{is_same, first_of, without}
use Rattle.table.specs.declared.outcome.Outcome.{Outcome}
use Rattle.table.specs.declared.references.Kill.{Kill}
use Rattle.table.specs.declared.references.Query.{Query}
use Rattle.table.specs.declared.references.Reset.{Reset}
use Rattle.table.specs.Acts.{Acts}
use Rattle.table.specs.Outcomes.{outcome}
use Rattle.table.specs.Settings.{Setting, here, replaced}

-- the count of the message that is the same, or that there is none
abbrev pub counted : ℕ → Option Row → Outcome
counted k (Some r) = outcome k (Some r.count) None
counted k None = outcome k None (Some MessageReferenceNotIdentified)

abbrev pub answer_reference : Key → Setting → Outcome
answer_reference key s = counted s.cell (first_of (is_same key) (here s))

-- KILL takes the message out
abbrev pub killed : Key → Setting → List (List Row)
killed key s = replaced s (without (is_same key) (here s))

-- RESET takes all out, and does not fail
abbrev pub answer_reset : Setting → Outcome
answer_reset s = outcome s.cell None None

abbrev pub emptied : Setting → List (List Row)
emptied s = replaced s []

-- the three kinds of request
abbrev pub kill_acts : Acts Kill
kill_acts = record { answer = λ q s. answer_reference q.key s; leaves = λ q s. killed q.key s; becomes = λ q s. q }

abbrev pub query_acts : Acts Query
query_acts = record { answer = λ q s. answer_reference q.key s; leaves = λ q s. s.rows; becomes = λ q s. q }

abbrev pub reset_acts : Acts Reset
reset_acts = record { answer = λ q s. answer_reset s; leaves = λ q s. emptied s; becomes = λ q s. q }
