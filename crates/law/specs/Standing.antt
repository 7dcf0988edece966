-- Messages that stand in a cell by the moments of a run, the oldest first, and their pasts, the newest period first.
use Rattle.std.specs.Prelude.{ℕ, ◌+◌, ◌-◌, Bool, cond, ◌&&◌, ◌||◌, List, [], ◌∷◌, map, take, Some, None, Ok, Err, Option, Result, ◌==◌, nat_lt}
use Rattle.cbsp.specs.declared.channel.Channel.{Channel}
use Rattle.cells.specs.declared.cell.Cell.{Cell}
use Rattle.cells.specs.File.{identities}
use Rattle.elements.specs.declared.faults.Fault.{Fault}
use Rattle.requests.specs.Requests.{RequestV, write_replace, kill, status_query, reset, keep_alive, read_request}
use Rattle.book.specs.Told.{Booked, booked, same_booked, told}
use Rattle.book.specs.Book.{stands_after, on_channel}
use Rattle.law.specs.Calls.{Call}
use Rattle.law.specs.Calls.Call.{opening, announcing, messaging, period, losing, returning, shutting}
use Rattle.law.specs.Steps.{Moment}

-- what is asked of a message: how many periods lie between two broadcasts, and how many broadcasts are requested (0: no bound)
pub record Wanted : Type 0 where
  pub message : Booked
  pub period : ℕ
  pub requested : ℕ

-- a message that stands, with how often it went out in each accepted period since it began
pub record Standing : Type 0 where
  pub wanted : Wanted
  pub past : List ℕ

abbrev pub begun : Wanted → Standing
begun a = record { wanted = a; past = [] }

-- what a request asks to begin
abbrev pub wanted_in : Result RequestV Fault → List Wanted
wanted_in (Ok (write_replace w)) = record { message = booked w.channel w.identifier w.new_serial; period = w.period; requested = w.broadcasts } ∷ []
wanted_in (Ok (kill r)) = []
wanted_in (Ok (status_query r)) = []
wanted_in (Ok (reset list)) = []
wanted_in (Ok (keep_alive code)) = []
wanted_in (Err f) = []

abbrev pub wanted_by : Call → List Wanted
wanted_by opening = []
wanted_by (announcing n space) = []
wanted_by (messaging n octets marks space) = wanted_in (read_request octets)
wanted_by period = []
wanted_by (losing n k space) = []
wanted_by (returning n k recovery space) = []
wanted_by (shutting n) = []

abbrev pub total : List ℕ → ℕ
total [] = 0
total (n ∷ ns) = n + total ns

-- one accepted period more
abbrev pub aged : List ℕ → List Standing → List Standing
aged [] ss = []
aged (n ∷ ns) [] = []
aged (n ∷ ns) (s ∷ ss) = record { wanted = s.wanted; past = n ∷ s.past } ∷ aged ns ss

abbrev pub in_period : Option (ℕ → List ℕ) → ℕ → List Standing → List Standing
in_period None k ss = ss
in_period (Some went) k ss = aged (went k) ss

-- what stands in a cell, told from the moments alone, as the book is
abbrev pub standing : List Cell → List Moment → ℕ → List Standing
standing cells [] k = []
standing cells (m ∷ ms) k =
    in_period m.went k
    (stands_after (λ old s. same_booked old s.wanted.message) (λ _. map begun (wanted_by m.call)) (identities cells k) (told m.sent) (standing cells ms k))

-- none went out in the newest periods, one fewer than its repetition period, and fewer than requested in all
abbrev pub is_due : Standing → Bool
is_due s = total (take (s.wanted.period - 1) s.past) == 0 && (s.wanted.requested == 0 || nat_lt (total s.past) s.wanted.requested)

-- how often messages went out on a channel
abbrev pub gone : Channel → List Standing → List ℕ → ℕ
gone h [] ns = 0
gone h (s ∷ ss) [] = 0
gone h (s ∷ ss) (n ∷ ns) = cond (on_channel s.wanted.message.channel h) n 0 + gone h ss ns
