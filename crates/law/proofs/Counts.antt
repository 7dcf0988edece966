-- The counts of a cell's messages where one ends or begins.
use Rattle.std.proofs.Common.{◌≡◌, ℕ, ◌+◌, ◌≤◌, Bool, true, false, cond, ◌&&◌, List, [], ◌∷◌, Some, None, Option, unwrap_or, sym, refl, ap, ◌∙◌, arith}
use Rattle.std.proofs.lemmas.Bool.{le-ltb}
use Rattle.std.proofs.lemmas.List.Sums.{sum_by-cons, sum_by_push}
use Rattle.std.specs.List.{sum_by}
use Rattle.book.specs.Book.{on_channel}
use Rattle.cbsp.specs.declared.channel.Channel.{Channel}
use Rattle.cbsp.specs.declared.channel.Channel.TheVariants.{Basic, Extended}
use Rattle.elements.specs.declared.cause.Cause.{Cause}
use Rattle.elements.specs.Octets.{mapped}
use Rattle.outcomes.specs.Tells.{Begun, By, Cut, Killed, grown_by, is_old_of}
use Rattle.replies.specs.Lists.{count_field}
use Rattle.rows.specs.declared.key.Key.{Key}
use Rattle.rows.specs.declared.row.Row.{Row}
use Rattle.rows.specs.Keys.{first_of, is_same, same_channel, without}
use Rattle.table.specs.declared.asked.Asked.{Asked}
use Rattle.table.specs.declared.outcome.Outcome.{Outcome}
use Rattle.table.specs.Write.{key_in, row_of}
use Rattle.law.specs.Law.{tally}
use Rattle.law.proofs.Listing.{Whole, end_count}
use Rattle.law.proofs.Turning.{share}
use Rattle.law.proofs.Tying.{either}

-- what the one that is taken out had is missing from the sum
sum_without : {X : Type 0} (f : X → ℕ) (p : X → Bool) (xs : List X) (r : X) → first_of p xs ≡ Some r → sum_by f (without p xs) + f r ≡ sum_by f xs
sum_without f p [] r e = absurd cc
sum_without {X} f p (x ∷ xs) r e = go (sum_without f p xs r) (p x) e
  where
    go : (first_of p xs ≡ Some r → sum_by f (without p xs) + f r ≡ sum_by f xs) → (b : Bool) → cond b (Some x) (first_of p xs) ≡ Some r → sum_by f (cond b xs (x ∷ without p xs)) + f r ≡ sum_by f (x ∷ xs)
    go ih true q = let s : x ≡ r = cc in let t : f x ≡ f r = ap f s in omega (arith, sum_by-cons f x xs)
    go ih false q = omega (arith, sum_by-cons f x xs, sum_by-cons f x (without p xs), ih q)

-- the first that passes does pass
first_passes : {X : Type 0} (p : X → Bool) (xs : List X) (r : X) → first_of p xs ≡ Some r → p r ≡ true
first_passes p [] r e = absurd cc
first_passes {X} p (x ∷ xs) r e = go (first_passes p xs r) (p x) refl e
  where
    go : (first_of p xs ≡ Some r → p r ≡ true) → (b : Bool) → p x ≡ b → cond b (Some x) (first_of p xs) ≡ Some r → p r ≡ true
    go ih true q w = let s : x ≡ r = cc in ap p (sym s) ∙ q
    go ih false q w = ih w

-- of a test that nothing passes there is no first
pub none_first : {X : Type 0} (xs : List X) (r : X) → first_of (λ x. false) xs ≡ Some r → ⊥
none_first [] r e = cc
none_first (x ∷ xs) r e = none_first xs r e

-- of the tests that a message is the same, the first is that of the channel
same_channel_lem : (a b : Channel) → same_channel a b ≡ true → a ≡ b
same_channel_lem Basic Basic e = refl
same_channel_lem Basic Extended e = absurd cc
same_channel_lem Extended Basic e = absurd cc
same_channel_lem Extended Extended e = refl

front : (a b c : Bool) → (a && b && c) ≡ true → a ≡ true
front true b c e = refl
front false b c e = e

-- nothing is counted, on whichever channel
no_share : (b : Bool) → ◌≡◌ {A = ℕ} (cond b 0 0) 0
no_share b = either b 0

-- a count that is not too large is told whole
whole_field : (n : ℕ) → n ≤ 65535 → count_field n ≡ n
whole_field n l = ap (λ (b : Bool). cond b 65535 n) (le-ltb 65535 n l)

-- a message ended: its count, told whole, is what the table's counts lost
cut_sums :
    (key : Key) (ended : Option ℕ) (rs ss : List Row) → Cut (is_same key) ended rs ss → ((n : ℕ) → ended ≡ Some n → n ≤ 65535) → (h : Channel)
    → cond (on_channel key.channel h) (unwrap_or (mapped count_field ended) 0) 0 + tally h ss ≡ tally h rs
cut_sums key None rs ss c whole h = rw c.rows (omega (arith, no_share (on_channel key.channel h)))
cut_sums key (Some n) rs ss c whole h =
    let x = c.honest n refl in
    let r : Row = x.0 in
    let s = sum_without (share h) (is_same key) rs r x.1 in
    let d : r.channel ≡ key.channel = same_channel_lem r.channel key.channel (front _ _ _ (first_passes (is_same key) rs r x.1)) in
    let t : share h r ≡ cond (on_channel key.channel h) (count_field n) 0 = rw (d, x.2, whole_field n (whole n refl)) refl in
    rw c.rows (omega (arith, s, t))

-- a message that begins has not gone out
grown_sums : (new : Row) (cause : Option Cause) (rs : List Row) → new.count ≡ 0 → (h : Channel) → tally h (grown_by new cause rs) ≡ tally h rs
grown_sums new None rs z h =
    let s = sum_by_push (share h) rs new in
    let t : share h new ≡ 0 = ap (λ (n : ℕ). cond (on_channel new.channel h) n 0) z ∙ no_share (on_channel new.channel h) in
    omega (arith, s, t)
grown_sums new (Some c) rs z h = refl

-- a KILL: what it told of a cell's message is what the cell's counts lost
pub killed_sums :
    (key : Key) (p : Option Outcome) (rs ss : List Row) → By (Killed key) p rs ss → Whole p → (h : Channel)
    → cond (on_channel key.channel h) (end_count p) 0 + tally h ss ≡ tally h rs
killed_sums key None rs ss e whole h = rw e (omega (arith, no_share (on_channel key.channel h)))
killed_sums key (Some o) rs ss e whole h = cut_sums key o.ended rs ss e.cut (λ n. whole o n refl) h

-- the old message of a WRITE-REPLACE, if one was given
old_sums :
    (q : Asked) (old : Option ℕ) (n : Option ℕ) (rs ss : List Row) → Cut (is_old_of q old) n rs ss → ((c : ℕ) → n ≡ Some c → c ≤ 65535) → (h : Channel)
    → cond (on_channel q.channel h) (unwrap_or (mapped count_field n) 0) 0 + tally h ss ≡ tally h rs
old_sums q None None rs ss e whole h = rw e.rows (omega (arith, no_share (on_channel q.channel h)))
old_sums q None (Some n) rs ss e whole h = let x = e.honest n refl in absurd (none_first rs x.0 x.1)
old_sums q (Some serial) n rs ss e whole h = cut_sums (key_in q serial) n rs ss e whole h

-- a WRITE-REPLACE: likewise of the old message, and the new one adds nothing
pub written_sums :
    (q : Asked) (p : Option Outcome) (rs ss : List Row) → By (Begun q) p rs ss → Whole p → (h : Channel)
    → cond (on_channel q.channel h) (end_count p) 0 + tally h ss ≡ tally h rs
written_sums q None rs ss e whole h = rw e (omega (arith, no_share (on_channel q.channel h)))
written_sums q (Some o) rs ss e whole h =
    let a = old_sums q q.old o.ended rs e.between e.cut (λ n. whole o n refl) h in
    let b = grown_sums (row_of q e.slot) o.cause e.between refl h in
    rw e.grown (omega (arith, a, b))
