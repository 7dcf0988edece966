-- Octets written into what is free of a memory, and pages one by one.
use Rattle.std.proofs.Common.{◌≡◌, ℕ, ◌+◌, ◌-◌, ◌*◌, ◌<◌, ◌≤◌, cond, ◌&&◌, le-leb, List, [], ◌∷◌, ◌++◌, length, get_or, take, drop, sym, refl, append_assoc, add-zero, arith}
use borrow.Rule.Slice.PartMut.{put_mid}
use Rattle.std.proofs.lemmas.Grind.{common_steps}
use Rattle.std.proofs.lemmas.List.{length-append, length-take, length-take-le, length-drop, take_all, drop-drop, append-nil, take_more}
use Rattle.cbsp.specs.Octets.{put}
use Rattle.cbsp.proofs.Puts.{put_none, put_more}
use Rattle.site.specs.declared.message.Page.{Page}
use Rattle.site.specs.Messages.{Aired}
use Rattle.site.specs.Pages.{page_octets}
use Rattle.frame.specs.Record.{pages_from}
use Rattle.frame.specs.Frame.{large, fits}

-- a write within the memory keeps its length
pub put_length : (at : ℕ) (octets memory : List ℕ) → at + length octets ≤ length memory → length (put octets at memory) ≡ length memory
put_length at octets memory le = omega (arith, length-append {A = ℕ}, length-drop {A = ℕ}, length-take {A = ℕ})

-- what is free, as a part of the memory
abbrev pub free : ℕ → List ℕ → List ℕ
free used memory = take (length memory - used) (drop used memory)

-- octets at its front
put_free : (used : ℕ) (octets memory : List ℕ) → put_mid used (length memory - used) memory (put octets 0 (free used memory)) ≡ put octets used memory
put_free used octets memory =
    let all = take_all (length memory - used) (drop used memory) in
    grind (arith, common_steps, all, drop-drop {A = ℕ}, append-nil {A = ℕ})

-- the memory after a broadcast was written there
pub written_free : (used : ℕ) (octets memory space : List ℕ) → space ≡ put octets 0 (free used memory) → 21152 ≤ length memory → used ≤ 19830 → put_mid used (length memory - used) memory space ≡ cond (large (length memory) && fits used) (put octets used memory) memory
written_free used octets memory space e le fit = rw (e, le-leb 21152 (length memory) le, le-leb used 19830 fit) (put_free used octets memory)

-- one page more
pages_more : (m : Aired) (n : ℕ) (ps : List Page) (p : Page) → pages_from m n (ps ++ p ∷ []) ≡ pages_from m n ps ++ page_octets m (n + length ps) p
unfolding pages_from
pages_more m n [] p = rw (append-nil (page_octets m n p), add-zero n) refl
pages_more m n (q ∷ ps) p =
    let far : (n + 1) + length ps ≡ n + length (q ∷ ps) = omega arith in
    rw (pages_more m (n + 1) ps p, far) (sym (append_assoc (page_octets m n q) (pages_from m (n + 1) ps) (page_octets m (n + length (q ∷ ps)) p)))

-- pages that were written at the front, one behind the other, as far as an index
pub record PagesWritten (m : Aired) (ps : List Page) (i : ℕ) (old new : List ℕ) : Type 0 where
  pub size : length (pages_from m 1 (take i ps)) ≡ 88 * i
  pub written : new ≡ put (pages_from m 1 (take i ps)) 0 old

-- no page
pub no_page_written : (m : Aired) (ps : List Page) (space : List ℕ) → PagesWritten m ps 0 space space
unfolding pages_from
no_page_written m ps space = record { size = refl; written = sym (put_none 0 space) }

-- and the page at that index behind them
pub page_written : (i : ℕ) (m : Aired) (ps : List Page) (d : Page) (old space new : List ℕ) → i < length ps → 88 * i + 88 ≤ length old → length (page_octets m (i + 1) (get_or ps i d)) ≡ 88 → new ≡ put (page_octets m (i + 1) (get_or ps i d)) (88 * i) space → PagesWritten m ps i old space → PagesWritten m ps (i + 1) old new
page_written i m ps d old space new lt fit whole w before =
    let xs = pages_from m 1 (take i ps) in
    let p = page_octets m (i + 1) (get_or ps i d) in
    let number : 1 + length (take i ps) ≡ i + 1 = (let h = length-take-le i ps (omega arith) in omega arith) in
    let grown : pages_from m 1 (take (i + 1) ps) ≡ xs ++ p = rw (take_more ps i d lt, pages_more m 1 (take i ps) (get_or ps i d), number) refl in
    let more = put_more 0 xs p old (88 * i) (omega (arith, before.size)) (omega arith) in
    record { size = rw grown (omega (arith, length-append xs p, before.size)); written = rw grown (let e = before.written in cc) }
