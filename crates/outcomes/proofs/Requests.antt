-- What each kind of request does in one cell.
use Rattle.std.proofs.Common.{◌≡◌, ℕ, ◌<◌, ◌≤◌, Bool, true, false, cond, leb, List, [], ◌∷◌, ◌++◌, length, get_or, set, is_some, Some, None, Option, unwrap_or, sym, refl, ap, subst, arith}
use Rattle.std.proofs.lemmas.List.{get_or-set_same, length_push}
use Rattle.std.proofs.lemmas.Bool.{leb-false}
use Rattle.elements.specs.declared.cause.Cause.{Cause}
use Rattle.elements.specs.declared.cause.Cause.TheVariants.{MessageReferenceAlreadyUsed, CellMemoryExceeded, BscMemoryExceeded}
use Rattle.naming.specs.declared.naming.Naming.TheVariants as naming
use Rattle.rows.specs.declared.key.Key.{Key}
use Rattle.rows.specs.declared.row.Row.{Row}
use Rattle.rows.specs.Keys.{is_same, first_of, without}
use Rattle.table.specs.declared.asked.Asked.{Asked}
use Rattle.table.specs.declared.write.Write.{Write}
use Rattle.table.specs.References.{counted, kill_acts, query_acts, reset_acts}
use Rattle.table.specs.Settings.{Setting, here, replaced, count_of}
use Rattle.table.specs.Write.{key_in, row_of, bar, blocked, cut, ended_by, cleared, slot_now, cause_now, answer_write, written, write_after, write_acts}
use Rattle.outcomes.specs.Tells.{Cut, cut_by, grown_by, is_old_of, is_old, Begun, Killed, Emptied, Left}
use Rattle.outcomes.proofs.Handling.{OnlyAt, only_none, only_set, only_then, Locally}

none_some : {X : Type 0} (x : X) → Some x ≡ None → ⊥
none_some x e = grind arith

-- where none passes, none goes
pub without_none : {X : Type 0} (test : X → Bool) (xs : List X) → first_of test xs ≡ None → without test xs ≡ xs
without_none test [] e = refl
without_none {X} test (x ∷ xs) e = go (test x) (without_none test xs) e
  where
    go : (b : Bool) → (first_of test xs ≡ None → without test xs ≡ xs) → cond b (Some x) (first_of test xs) ≡ None → cond b xs (x ∷ without test xs) ≡ x ∷ xs
    go true more none = absurd (none_some x none)
    go false more none = ap (λ (ys : List X). x ∷ ys) (more none)

pub without_few : {X : Type 0} (test : X → Bool) (xs : List X) → length (without test xs) ≤ length xs
without_few test [] = omega arith
without_few test (x ∷ xs) = go (test x) (without_few test xs)
  where
    go : (b : Bool) → length (without test xs) ≤ length xs → length (cond b xs (x ∷ without test xs)) ≤ length (x ∷ xs)
    go true more = omega arith
    go false more = omega arith

-- the first message that passes ends, with its count
pub cut_first : (test : Row → Bool) (rs : List Row) → Cut test (count_of (first_of test rs)) rs (without test rs)
cut_first test rs = go (first_of test rs) refl
  where
    go : (f : Option Row) → first_of test rs ≡ f → Cut test (count_of f) rs (without test rs)
    go None e = record { rows = without_none test rs e; honest = λ n ended. absurd (none_some n (sym ended)) }
    go (Some r) e = record { rows = refl; honest = λ n ended. (r, e, (cc)) }

-- nothing ends
pub cut_none : (test : Row → Bool) (rs : List Row) → Cut test None rs rs
cut_none test rs = record { rows = refl; honest = λ n ended. absurd (none_some n (sym ended)) }

pub cut_few : (test : Row → Bool) (ended : Option ℕ) (rs rs' : List Row) → Cut test ended rs rs' → length rs' ≤ length rs
cut_few test ended rs rs' c = rw c.rows (go ended)
  where
    go : (n : Option ℕ) → length (cut_by test n rs) ≤ length rs
    go None = omega arith
    go (Some n) = without_few test rs

counted_whom : (k : ℕ) (f : Option Row) → (counted k f).whom ≡ naming.Cell k
counted_whom k None = refl
counted_whom k (Some r) = refl

counted_ended : (k : ℕ) (f : Option Row) → (counted k f).ended ≡ count_of f
counted_ended k None = refl
counted_ended k (Some r) = refl

-- KILL asks for the same key all the while
pub kill_local : (key : Key) → Locally kill_acts (λ q. q.key ≡ key) (Killed key)
kill_local key q s e l =
    record {
      whom = counted_whom s.cell (first_of (is_same q.key) (here s));
      only = only_set s.cell s.rows (without (is_same q.key) (here s));
      at = record { cut = rw (counted_ended, get_or-set_same s.rows s.cell (without (is_same q.key) (here s)) [] l, e) (cut_first (is_same key) (here s)) };
      still = e;
    }

pub query_local : Locally query_acts (λ q. Unit {0}) Left
query_local q s e l =
    record { whom = counted_whom s.cell (first_of (is_same q.key) (here s)); only = only_none s.cell s.rows; at = refl; still = tt }

pub reset_local : Locally reset_acts (λ q. Unit {0}) Emptied
reset_local q s e l =
    record {
      whom = refl;
      only = only_set s.cell s.rows [];
      at = record { rows = get_or-set_same s.rows s.cell [] [] l; cause = refl; ended = refl };
      still = tt;
    }

-- the messages once the old one ended
cut_old : (q : Asked) (old : Option ℕ) (rs : List Row) → Cut (is_old_of q old) (ended_by q old rs) rs (cut q old rs)
cut_old q None rs = cut_none (is_old_of q None) rs
cut_old q (Some serial) rs = cut_first (is_same (key_in q serial)) rs

-- one begins only where the cell has fewer than eight
blocked_few : (q : Asked) (rs : List Row) (slot : Option ℕ) → blocked q rs slot ≡ None → length rs < 8
blocked_few q rs slot e = go (is_some (first_of (is_same (key_in q q.serial)) rs)) (leb 8 (length rs)) refl e
  where
    go : (used full : Bool) → leb 8 (length rs) ≡ full
        → cond used (Some MessageReferenceAlreadyUsed) (cond full (Some CellMemoryExceeded) (cond (is_some slot) None (Some BscMemoryExceeded))) ≡ None
        → length rs < 8
    go true full l n = absurd (none_some MessageReferenceAlreadyUsed n)
    go false true l n = absurd (none_some CellMemoryExceeded n)
    go false false l n = leb-false 8 (length rs) l

module _ (w : Write) (s : Setting) where
  -- the messages of the cell once the old one ended
  abbrev between : List Row
  between = get_or (cleared w s) s.cell []

  -- the message that begins, if it does
  abbrev new : Row
  new = row_of w.asked (unwrap_or (slot_now w s) 0)

module _ (w : Write) (s : Setting) (within : s.cell < length s.rows) where
  only_cleared : OnlyAt s.cell s.rows (cleared w s)
  unfolding cleared
  only_cleared = go (is_some (bar w s))
    where
      go : (b : Bool) → OnlyAt s.cell s.rows (cond b s.rows (replaced s (cut w.asked w.asked.old (here s))))
      go true = only_none s.cell s.rows
      go false = only_set s.cell s.rows (cut w.asked w.asked.old (here s))

  only_written : OnlyAt s.cell s.rows (written w s)
  unfolding written
  only_written = go (is_some (cause_now w s))
    where
      go : (b : Bool) → OnlyAt s.cell s.rows (cond b (cleared w s) (set (cleared w s) s.cell (between w s ++ new w s ∷ [])))
      go true = only_cleared
      go false = only_then only_cleared (only_set s.cell (cleared w s) (between w s ++ new w s ∷ []))

  cut_here : Cut (is_old w.asked) (answer_write w s).ended (here s) (between w s)
  unfolding cleared answer_write
  cut_here = go (is_some (bar w s))
    where
      go : (b : Bool)
          → Cut (is_old w.asked) (cond b None (ended_by w.asked w.asked.old (here s))) (here s)
          (get_or (cond b s.rows (replaced s (cut w.asked w.asked.old (here s)))) s.cell [])
      go true = cut_none (is_old w.asked) (here s)
      go false = rw (get_or-set_same s.rows s.cell (cut w.asked w.asked.old (here s)) [] within) (cut_old w.asked w.asked.old (here s))

  grown : get_or (written w s) s.cell [] ≡ grown_by (new w s) (cause_now w s) (between w s)
  unfolding written
  grown = go (cause_now w s)
    where
      go : (c : Option Cause) → get_or (cond (is_some c) (cleared w s) (set (cleared w s) s.cell (between w s ++ new w s ∷ []))) s.cell [] ≡ grown_by (new w s) c (between w s)
      go None = get_or-set_same (cleared w s) s.cell (between w s ++ new w s ∷ []) [] (omega (arith, only_cleared.long))
      go (Some c) = refl

  -- a message that begins finds room
  room : cause_now w s ≡ None → length (between w s) < 8
  unfolding cause_now
  room e = go (bar w s) e
    where
      go : (b : Option Cause) → cond (is_some b) b (blocked w.asked (between w s) (slot_now w s)) ≡ None → length (between w s) < 8
      go None n = blocked_few w.asked (between w s) (slot_now w s) n
      go (Some c) n = absurd (none_some c n)

  few_after : length (here s) ≤ 8 → length (get_or (written w s) s.cell []) ≤ 8
  few_after l = rw grown (go (cause_now w s) refl)
    where
      go : (c : Option Cause) → cause_now w s ≡ c → length (grown_by (new w s) c (between w s)) ≤ 8
      go None e = simp length_push (omega (arith, room e))
      go (Some c) e = omega (arith, cut_few (is_old w.asked) (answer_write w s).ended (here s) (between w s) cut_here)

  begun : Begun w.asked (answer_write w s) (here s) (get_or (written w s) s.cell [])
  unfolding answer_write
  begun = record { slot = unwrap_or (slot_now w s) 0; between = between w s; cut = cut_here; grown = grown; few = few_after }

-- WRITE-REPLACE asks the same all the while
pub write_local : (q : Asked) → Locally write_acts (λ w. w.asked ≡ q) (Begun q)
unfolding answer_write write_after
write_local q w s e l =
    record {
      whom = refl;
      only = only_written w s l;
      at = subst (λ (a : Asked). Begun a (answer_write w s) (here s) (get_or (written w s) s.cell [])) e (begun w s l);
      still = e;
    }
