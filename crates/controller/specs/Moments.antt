-- Calls and what came of them, as moments of a run.
use Rattle.std.specs.Prelude.{◌≡◌, ℕ, List, drop, length, replicate, take, Some, None, Ok, Err, Option, Result}
use Rattle.elements.specs.declared.faults.Fault.{Fault}
use Rattle.requests.specs.Requests.{RequestV, read_request}
use Rattle.site.specs.Model.{Model}
use Rattle.site.specs.Events.{Event}
use Rattle.law.specs.State.{State, rows_at}
use Rattle.law.specs.Calls.{Call as LawCall}
use Rattle.law.specs.Calls.Call.{opening, announcing, messaging, period, losing, returning, shutting}
use Rattle.law.specs.Steps.{Answer, Moment, Step, World as LawWorld, rises}
use Rattle.law.specs.Steps.Answer.{done, refused, unlinked}
use Rattle.controller.specs.declared.world.Call.{Call}
use Rattle.controller.specs.declared.world.Call.TheVariants.{Open, Announce, Message, Period, Lose, Restore, Shut}
use Rattle.controller.specs.declared.world.Report.{Report}
use Rattle.controller.specs.declared.world.Report.TheVariants.{Done, Refused, NoLink}
use Rattle.controller.specs.declared.world.World.{World}
use Rattle.controller.specs.Held.{state_of}
use Rattle.controller.specs.HeldLinks.{kinds_of}

abbrev pub world_of : {S : Type 0} → World S → LawWorld S
world_of w = record { table = state_of w.table; site = w.site; links = kinds_of w.links }

-- a call, with how many octets of marks and of reply space the host lends
abbrev pub meant : ℕ → ℕ → Call → LawCall
meant marks space Open = opening
meant marks space (Announce link) = announcing link space
meant marks space (Message link octets) = messaging link octets.now marks space
meant marks space Period = period
meant marks space (Lose link cell) = losing link cell space
meant marks space (Restore link cell recovery) = returning link cell recovery space
meant marks space (Shut link) = shutting link

-- how many octets were sent
abbrev pub sent_len : Report → ℕ
sent_len (Done a) = a.len
sent_len (Refused r) = 0
sent_len NoLink = 0

abbrev pub answer_in : Report → Answer
answer_in (Done a) = done
answer_in (Refused r) = refused r
answer_in NoLink = unlinked

-- how often each message of a cell went out, where the call is a period
abbrev pub went_in : LawCall → State → State → Option (ℕ → List ℕ)
went_in opening t t' = None
went_in (announcing n space) t t' = None
went_in (messaging n octets marks space) t t' = None
went_in period t t' = Some (λ k. rises (rows_at t k) (rows_at t' k))
went_in (losing n k space) t t' = None
went_in (returning n k recovery space) t t' = None
went_in (shutting n) t t' = None

abbrev pub went_by : Report → LawCall → State → State → Option (ℕ → List ℕ)
went_by (Done a) c t t' = went_in c t t'
went_by (Refused r) c t t' = None
went_by NoLink c t t' = None

-- the fault of a message that is accepted and cannot be read
abbrev pub fault_in : Result RequestV Fault → Option Fault
fault_in (Ok m) = None
fault_in (Err f) = Some f

abbrev pub fault_of : LawCall → Option Fault
fault_of opening = None
fault_of (announcing n space) = None
fault_of (messaging n octets marks space) = fault_in (read_request octets)
fault_of period = None
fault_of (losing n k space) = None
fault_of (returning n k recovery space) = None
fault_of (shutting n) = None

-- what is reported of a moment
abbrev pub report_by : Answer → ℕ → Option Fault → Report
report_by done n f = Done (record { len = n; fault = f })
report_by (refused r) n f = Refused r
report_by unlinked n f = NoLink

abbrev pub report_of : Moment → Report
report_of m = report_by m.answer (length m.sent) (fault_of m.call)

-- the marks after a call that is accepted
abbrev pub marks_in : LawCall → List ℕ → List ℕ
marks_in opening was = was
marks_in (announcing n space) was = was
marks_in (messaging n octets marks space) was = replicate 64 0
marks_in period was = was
marks_in (losing n k space) was = was
marks_in (returning n k recovery space) was = was
marks_in (shutting n) was = was

-- the marks after any call
abbrev pub marks_by : Report → LawCall → List ℕ → List ℕ
marks_by (Done a) c was = marks_in c was
marks_by (Refused r) c was = was
marks_by NoLink c was = was

-- the octets of the space behind what was sent stay
abbrev pub SpaceKept : Report → List ℕ → List ℕ → Type 0
SpaceKept report was is = drop (sent_len report) is ≡ drop (sent_len report) was

-- over any site
module _ {S : Type 0} (model : S → Model) (steps : S → Event → S → Type 0) where
  -- a call from w to v, what was reported of it, and the space after it
  module _ (c : LawCall) (w v : LawWorld S) (report : Report) (space : List ℕ) where
    abbrev pub moment : Moment
    moment =
        record {
          call = c;
          answer = answer_in report;
          sent = take (sent_len report) space;
          went = went_by report c w.table v.table;
          before = model w.site;
          after = model v.site;
        }

    -- the call was made by the rules, and the report is that of its moment
    pub record Stepped : Type 0 where
      pub step : Step model steps moment w v
      pub told : report ≡ report_of moment
