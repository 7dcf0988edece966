-- Calls that leave the messages, and calls that empty cells.
use Rattle.std.proofs.Common.{◌≡◌, ℕ, ◌<◌, ◌≤◌, Bool, true, false, cond, not, ◌&&◌, List, [], length, sym, refl, ◌∙◌, inl, inr, arith}
use Rattle.std.proofs.lemmas.Bool.{and_cases, both_ways, or_parts}
use Rattle.book.specs.Book.{added, book_after, is_emptied}
use Rattle.book.specs.Told.{Booked, Told, is_listed}
use Rattle.book.specs.Told.Told.{silent}
use Rattle.cbsp.specs.declared.channel.Channel.{Channel}
use Rattle.cells.specs.declared.cell.Identity.{Identity}
use Rattle.cells.specs.File.{identities}
use Rattle.lists.specs.Entries.{Entry}
use Rattle.rows.specs.declared.row.Row.{Row}
use Rattle.site.specs.Model.{Model}
use Rattle.law.specs.Calls.{Call}
use Rattle.law.specs.Law.{book, is_announcing, spoils}
use Rattle.law.specs.Standing.{Standing, standing}
use Rattle.law.specs.State.{State, rows_at}
use Rattle.law.specs.Steps.{Moment}
use Rattle.law.proofs.Invariants.{Change, Invariant, standing_after}
use Rattle.law.proofs.Pasts.{Keeps}
use Rattle.law.proofs.Periods.{Is}
use Rattle.law.proofs.Tying.{either, tied_emptied}

-- the cells and the periods of a table stay, and if it is announced, it was so at some time
pub record Steady (t u : State) : Type 0 where
  pub cells : u.cells ≡ t.cells
  pub long : length u.rows ≡ length t.rows
  pub periods : u.periods ≡ t.periods
  pub heard : u.announced ≡ true → u.ever ≡ true

module _ (ms : List Moment) (c : Call) (t u : State) (site : Model) (i : Invariant ms t site) (s : Steady t u) where
  -- nothing is told, and the messages stay
  pub silent_change : u.ever ≡ t.ever → ((k : ℕ) → k < length t.cells → rows_at u k ≡ rows_at t k) → Change ms c silent t u
  silent_change ever same = record {
    cells = s.cells;
    long = s.long;
    standings = λ k l. rw (same k l) (i.standings k l);
    messages = λ k l. rw (same k l) (i.messages k l);
    nowhere = λ j n. refl;
    sums = λ k h l e. rw (same k l) (omega arith);
    few = λ k l. rw (same k l) (i.few k l);
    periods = s.periods;
    unheard = λ e k l. same k l ∙ i.unheard (sym ever ∙ e) k l;
    heard = s.heard;
  }

  -- x says that the cells of a list have no messages, and so it is; a cell that stays in the sums keeps its own
  pub emptied_change :
      (x : Told) (list : List Entry) → ((j : Identity) (ss : List Standing) → standing_after c j x ss ≡ cond (is_listed j list) [] ss)
      → ((j : Identity) (bs : List Booked) → book_after j x bs ≡ cond (is_listed j list) [] bs) → ((j : Identity) (h : Channel) → added j h x ≡ 0)
      → ((k : ℕ) → k < length t.cells → rows_at u k ≡ cond (is_listed (identities t.cells k) list) [] (rows_at t k))
      → ((k : ℕ) → k < length t.cells → spoils c x (identities t.cells k) ≡ false → rows_at u k ≡ rows_at t k)
      → u.ever ≡ true → Change ms c x t u
  emptied_change x list stands books none emptied same ever = record {
    cells = s.cells;
    long = s.long;
    standings = λ k l.
        rw (stands (identities t.cells k) (standing t.cells ms k), emptied k l)
        (tied_emptied Keeps (is_listed (identities t.cells k) list) (standing t.cells ms k) (rows_at t k) (i.standings k l));
    messages = λ k l.
        rw (books (identities t.cells k) (book ms (identities t.cells k)), emptied k l)
        (tied_emptied Is (is_listed (identities t.cells k) list) (book ms (identities t.cells k)) (rows_at t k) (i.messages k l));
    nowhere = λ j n. books j [] ∙ either (is_listed j list) [];
    sums = λ k h l e. rw (same k l e) (omega (arith, none (identities t.cells k) h));
    few = λ k l. rw (emptied k l) (few_emptied (is_listed (identities t.cells k) list) (rows_at t k) (i.few k l));
    periods = s.periods;
    unheard = λ e. absurd (both_ways u.ever e ever);
    heard = s.heard;
  }
    where
      few_emptied : (b : Bool) (rs : List Row) → length rs ≤ 8 → length (cond b [] rs) ≤ 8
      few_emptied true rs l = omega arith
      few_emptied false rs l = l

-- a call that is no announcing takes a cell out of the sums where it empties it
pub not_spoiled : (c : Call) (x : Told) (j : Identity) → is_announcing c ≡ false → spoils c x j ≡ false → is_emptied j x ≡ false
not_spoiled c x j n e =
    elim (and_cases (is_emptied j x) (not (is_announcing c)) (or_parts (is_emptied j x && not (is_announcing c)) _ e).0) [
      | inl p ↦ p
      | inr p ↦ absurd (both_ways (not (is_announcing c)) p (rw n))
    ]
