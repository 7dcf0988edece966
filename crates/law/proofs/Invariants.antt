-- What holds after every call of a run, and what a call in which nothing goes out has to show.
use Rattle.std.proofs.Common.{◌≡◌, ℕ, ◌+◌, ◌*◌, ◌<◌, ◌≤◌, Bool, true, false, ◌≢◌, List, [], ◌∷◌, map, length, None, sym, ap, ◌∙◌, arith}
use Rattle.std.proofs.lemmas.Bool.{or_parts}
use Rattle.book.specs.Book.{added, book_after, stands_after}
use Rattle.book.specs.Told.{Booked, Told, same_booked, told}
use Rattle.cbsp.specs.declared.channel.Channel.{Channel}
use Rattle.cells.specs.declared.cell.Cell.{Cell}
use Rattle.cells.specs.declared.cell.Identity.{Identity}
use Rattle.cells.specs.File.{identities}
use Rattle.site.specs.Model.{Model}
use Rattle.law.specs.Calls.{Call}
use Rattle.law.specs.Law.{Right, Tied, book, excepted, spoils, summed, tally}
use Rattle.law.specs.Runs.{Checked}
use Rattle.law.specs.Standing.{Standing, begun, standing, wanted_by}
use Rattle.law.specs.State.{State, rows_at}
use Rattle.law.specs.Steps.{Moment}
use Rattle.law.proofs.Pasts.{Keeps}
use Rattle.law.proofs.Periods.{Is}

-- no cell has this identity
abbrev pub Nowhere : List Cell → Identity → Type 0
Nowhere cells i = (k : ℕ) → k < length cells → identities cells k ≢ i

-- the invariant, of a table that has these cells
pub record Over (cells : List Cell) (ms : List Moment) (t : State) (site : Model) : Type 0 where
  pub checked : Checked cells
  pub long : length t.rows ≡ length cells
  -- each row is tied to the message that stands there by the moments, and to the book's
  pub standings : (k : ℕ) → k < length cells → Tied Keeps (standing cells ms k) (rows_at t k)
  pub messages : (k : ℕ) → k < length cells → Tied Is (book ms (identities cells k)) (rows_at t k)
  pub nowhere : (i : Identity) → Nowhere cells i → book ms i ≡ []
  pub sums : (k : ℕ) (h : Channel) → k < length cells → excepted ms (identities cells k) ≡ false
      → summed ms (identities cells k) h + tally h (rows_at t k) ≡ site.count k h
  pub few : (k : ℕ) → k < length cells → length (rows_at t k) ≤ 8
  -- a cell's eight messages go out at most once in a period each
  pub counts : (k : ℕ) (h : Channel) → k < length cells → site.count k h ≤ 8 * t.periods
  pub periods : t.periods ≤ 4294967295
  -- a table that was never announced has no message, so that its first announcing may say that messages are lost
  pub unheard : t.ever ≡ false → (k : ℕ) → k < length cells → rows_at t k ≡ []
  pub heard : t.announced ≡ true → t.ever ≡ true

abbrev pub Invariant : List Moment → State → Model → Type 0
Invariant ms t site = Over t.cells ms t site

-- whether a message that stands is that of the book, and what stands where a call begins a message
abbrev pub is_standing : Booked → Standing → Bool
is_standing old s = same_booked old s.wanted.message

abbrev pub newly_standing : Call → Booked → List Standing
newly_standing c new = map begun (wanted_by c)

-- what stands in a cell after a call, no period, of which x is told
abbrev pub standing_after : Call → Identity → Told → List Standing → List Standing
standing_after c i x ss = stands_after is_standing (newly_standing c) i x ss

-- a call in which nothing goes out led from table t to table u, and x is told of it
pub record Change (ms : List Moment) (c : Call) (x : Told) (t u : State) : Type 0 where
  pub cells : u.cells ≡ t.cells
  pub long : length u.rows ≡ length t.rows
  pub standings : (k : ℕ) → k < length t.cells → Tied Keeps (standing_after c (identities t.cells k) x (standing t.cells ms k)) (rows_at u k)
  pub messages : (k : ℕ) → k < length t.cells → Tied Is (book_after (identities t.cells k) x (book ms (identities t.cells k))) (rows_at u k)
  pub nowhere : (i : Identity) → Nowhere t.cells i → book_after i x [] ≡ []
  pub sums : (k : ℕ) (h : Channel) → k < length t.cells → spoils c x (identities t.cells k) ≡ false
      → added (identities t.cells k) h x + tally h (rows_at u k) ≡ tally h (rows_at t k)
  pub few : (k : ℕ) → k < length t.cells → length (rows_at u k) ≤ 8
  pub periods : u.periods ≡ t.periods
  pub unheard : u.ever ≡ false → (k : ℕ) → k < length t.cells → rows_at u k ≡ []
  pub heard : u.announced ≡ true → u.ever ≡ true

-- after one moment more: the same cells, the invariant, and what the law says of the moment
pub record Next (ms : List Moment) (m : Moment) (t u : State) (site : Model) : Type 0 where
  pub cells : u.cells ≡ t.cells
  pub invariant : Over t.cells (m ∷ ms) u site
  pub right : Right t.cells m.went m ms

module _ (ms : List Moment) (m : Moment) (t u : State) (a b : Model) (x : Told) (i : Invariant ms t a) (c : Change ms m.call x t u)
    (before : m.before ≡ a) (after : m.after ≡ b) (sent : told m.sent ≡ x) (went : m.went ≡ None) (counts : b.count ≡ a.count) where
  same_count : (k : ℕ) (h : Channel) → b.count k h ≡ a.count k h
  same_count k h = ap (λ (f : ℕ → Channel → ℕ). f k h) counts

  -- what a call changed, and what is told of it, keep the invariant
  kept : Over t.cells (m ∷ ms) u b
  kept = record {
    checked = i.checked;
    long = c.long ∙ i.long;
    standings = λ k l. rw (went, sent) (c.standings k l);
    messages = λ k l. rw sent (c.messages k l);
    nowhere = λ j n. rw (sent, i.nowhere j n) (c.nowhere j n);
    sums = λ k h l e.
        let p = or_parts (spoils m.call (told m.sent) (identities t.cells k)) (excepted ms (identities t.cells k)) e in
        let s = c.sums k h l (rw sent at p.0) in
        let y = ap (λ (z : Told). added (identities t.cells k) h z) sent in
        omega (arith, s, y, same_count k h, i.sums k h l p.1);
    few = c.few;
    counts = λ k h l. omega (arith, same_count k h, c.periods, i.counts k h l);
    periods = omega (arith, c.periods, i.periods);
    unheard = c.unheard;
    heard = c.heard;
  }

  pub quietly : Next ms m t u b
  quietly = record {
    cells = c.cells;
    invariant = kept;
    right = rw went (ap (λ (s : Model). s.count) after ∙ counts ∙ sym (ap (λ (s : Model). s.count) before));
  }
