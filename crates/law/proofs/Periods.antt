-- A period over the messages of one cell.
use Rattle.std.proofs.Common.{◌≡◌, ℕ, ◌+◌, ◌-◌, ◌^◌, ◌<◌, ◌≤◌, Bool, true, false, cond, List, [], ◌∷◌, map, length, sym, refl, ap, ◌∙◌, arith}
use Rattle.std.specs.List.{AllZip}
use Rattle.std.proofs.lemmas.List.Sums.{sum_by-cons}
use Rattle.book.specs.Book.{on_channel}
use Rattle.book.specs.Told.{Booked}
use Rattle.cbsp.specs.declared.channel.Channel.{Channel}
use Rattle.rows.specs.declared.row.Row.{Row}
use Rattle.rows.specs.Sweep.{lowered}
use Rattle.site.specs.Model.{Model}
use Rattle.law.specs.Law.{Fair, Tied, booked_of, tally}
use Rattle.law.specs.Standing.{Standing, aged, gone}
use Rattle.law.specs.Steps.{rises}
use Rattle.law.proofs.Pasts.{Keeps, fair, keeps_on}
use Rattle.law.proofs.Turning.{Moved, share}
use Rattle.law.proofs.Turning.Moved.{went, stayed}

-- a message of the book is the row's
abbrev pub Is : Booked → Row → Type 0
Is x r = booked_of r ≡ x

-- how one message moved: it is the same, and counts as many or one more
pub record Rise (r t : Row) : Type 0 where
  pub message : booked_of t ≡ booked_of r
  pub up : r.count ≤ t.count
  pub one : t.count ≤ r.count + 1

pub rise : (k : ℕ) (n : Model) (r t : Row) → Moved k n (lowered r) t → Rise r t
rise k n r t (went e d p) = rw e (record { message = refl; up = omega arith; one = omega arith })
rise k n r t (stayed e f) = rw e (record { message = refl; up = omega arith; one = omega arith })

-- what holds of no message, and of one more where it holds of the others, holds of a cell's messages after a period
module _ {X : Type 0} (R : X → Row → Type 0) (k : ℕ) (n : Model) (P : List X → List Row → List Row → Type 0) (none : P [] [] [])
    (more : (x : X) (r t : Row) (xs : List X) (rs ts : List Row) → R x r → Moved k n (lowered r) t → P xs rs ts → P (x ∷ xs) (r ∷ rs) (t ∷ ts)) where
  by_turns : (xs : List X) (rs ts : List Row) → Tied R xs rs → AllZip (Moved k n) (map lowered rs) ts → P xs rs ts
  by_turns [] [] [] a e = none
  by_turns [] [] (t ∷ ts) a e = absurd e
  by_turns [] (r ∷ rs) ts a e = absurd a
  by_turns (x ∷ xs) [] ts a e = absurd a
  by_turns (x ∷ xs) (r ∷ rs) [] a e = absurd e
  by_turns (x ∷ xs) (r ∷ rs) (t ∷ ts) a e = more x r t xs rs ts a.0 e.0 (by_turns xs rs ts a.1 e.1)

pub tied_moved : (k : ℕ) (n : Model) (xs : List Booked) (rs ts : List Row) → Tied Is xs rs → AllZip (Moved k n) (map lowered rs) ts → Tied Is xs ts
tied_moved k n = by_turns Is k n (λ xs rs ts. Tied Is xs ts) tt (λ x r t xs rs ts a e ih. ((rise k n r t e).message ∙ a, ih))

pub tied_aged :
    (k : ℕ) (n : Model) (ss : List Standing) (rs ts : List Row) → Tied Keeps ss rs → AllZip (Moved k n) (map lowered rs) ts
    → Tied Keeps (aged (rises rs ts) ss) ts
tied_aged k n = by_turns Keeps k n (λ ss rs ts. Tied Keeps (aged (rises rs ts) ss) ts) tt (λ s r t ss rs ts a e ih. (keeps_on k n s r t a e, ih))

pub tied_fair :
    (k : ℕ) (n : Model) → k < 64 → ((h : Channel) → n.count k h < 2 ^ 48) → (ss : List Standing) (rs ts : List Row) → Tied Keeps ss rs
    → AllZip (Moved k n) (map lowered rs) ts → Tied (Fair (n.opened k) (n.room k)) ss (rises rs ts)
tied_fair k n l b =
    by_turns Keeps k n (λ ss rs ts. Tied (Fair (n.opened k) (n.room k)) ss (rises rs ts)) tt (λ s r t ss rs ts a e ih. (fair k n s r t l b a e, ih))

pub tally_lowered : (h : Channel) (rs : List Row) → tally h (map lowered rs) ≡ tally h rs
tally_lowered h [] = refl
tally_lowered h (r ∷ rs) =
    sum_by-cons (share h) (lowered r) (map lowered rs) ∙ ap (λ (n : ℕ). share h r + n) (tally_lowered h rs) ∙ sym (sum_by-cons (share h) r rs)

-- what went out is how far the counts rose, and at most one for each message
abbrev pub Gone : Channel → List Standing → List Row → List Row → Type 0
Gone h ss rs ts = (gone h ss (rises rs ts) + tally h rs ≡ tally h ts) × (gone h ss (rises rs ts) ≤ length rs)

pub gone_is : (k : ℕ) (n : Model) (h : Channel) (ss : List Standing) (rs ts : List Row) → Tied Keeps ss rs → AllZip (Moved k n) (map lowered rs) ts → Gone h ss rs ts
gone_is k n h = by_turns Keeps k n (Gone h) (refl, omega arith) more
  where
    by : (b : Bool) (x y : ℕ) → x ≤ y → y ≤ x + 1 → (cond b (y - x) 0 + cond b x 0 ≡ cond b y 0) × (cond b (y - x) 0 ≤ 1)
    by true x y l m = (omega arith, omega arith)
    by false x y l m = (omega arith, omega arith)

    more : (s : Standing) (r t : Row) (ss : List Standing) (rs ts : List Row) → Keeps s r → Moved k n (lowered r) t → Gone h ss rs ts → Gone h (s ∷ ss) (r ∷ rs) (t ∷ ts)
    more s r t ss rs ts a e ih =
        let q = rise k n r t e in
        let c : s.wanted.message.channel ≡ r.channel = ap (λ (x : Booked). x.channel) (sym a.message) in
        let d = by (on_channel r.channel h) r.count t.count q.up q.one in
        let u : share h t ≡ cond (on_channel r.channel h) t.count 0 = ap (λ (x : Booked). cond (on_channel x.channel h) t.count 0) q.message in
        let g : cond (on_channel s.wanted.message.channel h) (t.count - r.count) 0 ≡ cond (on_channel r.channel h) (t.count - r.count) 0
        = ap (λ (x : Channel). cond (on_channel x h) (t.count - r.count) 0) c in
        (omega (arith, d.0, u, g, ih.0, sum_by-cons (share h) r rs, sum_by-cons (share h) t ts), omega (arith, d.1, g, ih.1))

-- where no message was, none is
pub nothing_moved : (k : ℕ) (n : Model) (ts : List Row) → AllZip (Moved k n) [] ts → ts ≡ []
nothing_moved k n [] e = refl
nothing_moved k n (t ∷ ts) e = absurd e
