-- Pages read and written one by one.
use Rattle.std.proofs.Common.{◌≡◌, ℕ, zero, suc, ◌+◌, ◌-◌, ◌*◌, ◌<◌, ◌≤◌, leb, List, [], ◌∷◌, ◌++◌, length, map, get_or, take, drop, Some, None, Ok, Err, Option, Result, Bor, sym, refl, ap, ◌∙◌, inl, inr, append_assoc, arith}
use Rattle.std.proofs.lemmas.Bool.{leb-true}
use Rattle.std.proofs.lemmas.List.{drop-drop, drop-take, drop_all, take_rest, take-take, get_or-take, get_or-drop}
use Rattle.std.specs.List.{flat_map}
use Rattle.std.specs.Option.{unwrap_or}
use Rattle.std.specs.Slice.{IsGetRangeResult}
use Rattle.std.specs.Simd.{first_chunks}
use Rattle.elements.specs.declared.faults.ElementFault.{ElementFault}
use Rattle.elements.specs.declared.faults.Fault.{Fault}
use Rattle.elements.specs.declared.writer.Writer.{Writer}
use Rattle.elements.specs.Elements.{find, sought, within}
use Rattle.elements.specs.Faults.{to_message}
use Rattle.elements.specs.Octets.{then, raised}
use Rattle.elements.specs.Writes.{Room, Writes}
use Rattle.elements.proofs.Laws.{found}
use Rattle.elements.proofs.Progress.{Progress, progress_more}
use Rattle.elements.proofs.Standing.{when_ok, then_ok, same_ok, not_ok, raised_ok}
use Rattle.pages.specs.declared.page.Page.{Page}
use Rattle.pages.specs.Pages.{ahead, read_times, page, page_at, read_page, whole_page}

-- values before values
abbrev pub ahead_all : {V : Type 0} → List V → Result (List V × ℕ) Fault → Result (List V × ℕ) Fault
ahead_all vs (Ok p) = Ok (vs ++ p.0, p.1)
ahead_all vs (Err f) = Err f

after : {V : Type 0} (vs : List V) (v : V) (r : Result (List V × ℕ) Fault) → ahead_all vs (ahead v r) ≡ ahead_all (vs ++ v ∷ []) r
after vs v (Ok p) = rw append_assoc
after vs v (Err f) = refl

-- a page that was read stands at its place
sought_page :
    (at : ℕ) (read : ℕ → Result (Page × ℕ) ElementFault) (o : Option ℕ) (p : Page × ℕ) → sought at read o ≡ Ok p → (body : ℕ) × (o ≡ Some body) × (read body ≡ Ok p)
sought_page at read None p e = absurd (not_ok _ _ e)
sought_page at read (Some body) p e = (body, refl, raised_ok to_message (read body) p e)

pub page_stands : (os : List ℕ) (at : ℕ) (v : Page) (next : ℕ) → page.read os at ≡ Ok (v, next) → (v ≡ page_at os (at + 1)) × (next ≡ at + 84) × (next ≤ length os)
page_stands os at v next e =
    let t = then_ok (raised to_message (find 1 os at)) (sought at (read_page os at)) (v, next) e in
    let s = sought_page at (read_page os at) t.0 (v, next) t.2 in
    let f = found 1 os at s.0 (raised_ok to_message (find 1 os at) t.0 t.1 ∙ ap Ok s.1) in
    let w = when_ok (leb (s.0 + 83) (length os)) _ _ _ s.2 in
    let u = when_ok (within 1 82 (get_or os s.0 0)) _ _ _ w.1 in
    let h : s.0 + 83 ≤ length os = leb-true _ _ w.0 in
    let p : ◌≡◌ {A = Page × ℕ} (page_at os s.0, s.0 + 83) (v, next) = same_ok _ _ u.1 in
    let n : s.0 + 83 ≡ next = ap (λ (q : Page × ℕ). q.1) p in
    let b : at + 1 ≡ s.0 = f.2 in
    let m : next ≡ at + 84 = omega arith in
    let l : next ≤ length os = omega arith in
    (sym (ap (λ (q : Page × ℕ). q.0) p) ∙ ap (page_at os) (sym b), m, l)

-- the pages of n whole elements from a place
abbrev pub pages_of : List ℕ → ℕ → ℕ → List Page
pages_of os at n = map whole_page (first_chunks 84 n (drop at os))

whole_there : (os : List ℕ) (at : ℕ) → whole_page (take 84 (drop at os)) ≡ page_at os (at + 1)
whole_there os at =
    let u : get_or (take 84 (drop at os)) 1 0 ≡ get_or os (at + 1) 0 = get_or-take 84 (drop at os) 1 0 (omega arith) ∙ get_or-drop at os 1 0 in
    let n : at + 2 ≡ at + 1 + 1 = omega arith in
    let c : take 82 (drop 2 (take 84 (drop at os))) ≡ take 82 (drop (at + 1 + 1) os)
    = ap (take 82) (drop-take 2 82 (drop at os)) ∙ take-take 82 82 (drop 2 (drop at os)) (omega arith) ∙ ap (take 82) (drop-drop 2 at os) ∙ ap (λ (i : ℕ). take 82 (drop i os)) n in
    cc

pages_more : (os : List ℕ) (at n : ℕ) → pages_of os at (suc n) ≡ page_at os (at + 1) ∷ pages_of os (at + 84) n
pages_more os at n = rw (whole_there os at, drop-drop 84 at os) refl

-- the first of the elements that there are
pub first_of : (n k : ℕ) (os : List ℕ) → k ≤ n → take k (first_chunks 84 n os) ≡ first_chunks 84 k os
first_of n zero os h = refl
first_of zero (suc k) os h = absurd (omega arith)
first_of (suc n) (suc k) os h = ap (λ (es : List (List ℕ)). take 84 os ∷ es) (first_of n k (drop 84 os) (omega arith))

-- what is left of the octets, also where nothing is
pub rest_got : (os : List ℕ) (at : ℕ) (r : Option (Bor (List ℕ))) (d : Bor (List ℕ)) → IsGetRangeResult os at (length os) r → d.now ≡ [] → (unwrap_or r d).now ≡ drop at os
rest_got os at None d g e =
    elim (g.0) [
      | inl h ↦ let l : length os ≤ at = omega arith in e ∙ sym (drop_all at os l)
      | inr h ↦ absurd (omega arith)
    ]
rest_got os at (Some s) d g e = g.0.2 ∙ take_rest os at

-- n of `count` pages were read, and what is still read goes on from them
pub record SoFar (os : List ℕ) (start count n at : ℕ) : Type 0 where
  pub done : List Page
  pub reads : ahead_all done (read_times page os (count - n) at) ≡ read_times page os count start
  pub gives : pages_of os start count ≡ done ++ pages_of os at (count - n)
  pub place : at ≡ start + 84 * n
  pub room : 84 * n ≤ length os - start

module _ (os : List ℕ) (start count n at : ℕ) (s : SoFar os start count n at) where
  pub sofar_done : n ≡ count → read_times page os count start ≡ Ok (pages_of os start count, at)
  unfolding read_times
  sofar_done e =
      let z : count - n ≡ 0 = omega arith in
      let r : ahead_all s.done (read_times page os 0 at) ≡ read_times page os count start = ap (λ (i : ℕ). ahead_all s.done (read_times page os i at)) (sym z) ∙ s.reads in
      let g : pages_of os start count ≡ s.done ++ [] = s.gives ∙ ap (λ (i : ℕ). s.done ++ pages_of os at i) z in
      sym r ∙ ap (λ (ps : List Page). Ok (ps, at)) (sym g)

  module _ (l : n < count) where
    next_of : suc (count - (n + 1)) ≡ count - n
    next_of = omega arith

    reads_on : ahead_all s.done (then (page.read os at) (λ p. ahead p.0 (read_times page os (count - (n + 1)) p.1))) ≡ read_times page os count start
    unfolding read_times
    reads_on = ap (λ (i : ℕ). ahead_all s.done (read_times page os i at)) next_of ∙ s.reads

    pub sofar_fault : (f : Fault) → page.read os at ≡ Err f → read_times page os count start ≡ Err f
    sofar_fault f e = sym reads_on ∙ ap (λ (r : Result (Page × ℕ) Fault). ahead_all s.done (then r (λ p. ahead p.0 (read_times page os (count - (n + 1)) p.1)))) e

    pub sofar_more : (p : Page) (next : ℕ) → page.read os at ≡ Ok (p, next) → SoFar os start count (n + 1) next
    sofar_more p next e =
        let t = page_stands os at p next e in
        let left : ℕ = count - (n + 1) in
        let g : pages_of os at (count - n) ≡ p ∷ pages_of os next left
        = ap (pages_of os at) (sym next_of) ∙ pages_more os at left ∙ ap (λ (q : Page). q ∷ pages_of os (at + 84) left) (sym t.0) ∙ ap (λ (i : ℕ). p ∷ pages_of os i left) (sym t.1) in
        record {
          done = s.done ++ p ∷ [];
          reads = sym (after s.done p (read_times page os left next)) ∙ sym (ap (λ (r : Result (Page × ℕ) Fault). ahead_all s.done (then r (λ q. ahead q.0 (read_times page os left q.1)))) e) ∙ reads_on;
          gives = s.gives ∙ ap (λ (ps : List Page). s.done ++ ps) g ∙ sym (append_assoc s.done (p ∷ []) (pages_of os next left));
          place = omega (arith, s.place, t.1);
          room = omega (arith, s.place, s.room, t.1, t.2);
        }

-- some pages were written, and the rest are to be
pub record Putting (all rest : List Page) (was is : Writer) : Type 0 where
  pub progress : Progress page.spell all rest was.at was.out.now is.out.now is.at
  pub lender : is.out.ghost_name ≡ was.out.ghost_name

module _ (all rest left : List Page) (p : Page) (was is : Writer) (e : rest ≡ p ∷ left) (s : Putting all rest was is) where
  pub putting_more : (then : Writer) → Room (flat_map page.spell all) was → Writes (page.spell p) is then → Putting all left was then
  putting_more then h w = record {
    progress = progress_more page.spell all rest left p was.at was.out.now is.out.now is.at e s.progress then.out.now then.at h (record { octets = w.octets; place = w.place });
    lender = w.lender ∙ s.lender;
  }
