use Rattle.std.proofs.Common.{◌≡◌, ℕ, List, ◌-◌, ◌/◌, ◌≤◌, length, map, take, drop, Ok, sym, refl, ap, ◌∙◌, arith, length-drop}
use Rattle.std.proofs.lemmas.Result.{err_from_is_err_and}
use Rattle.std.specs.Simd.{first_chunks}
use Rattle.pages.specs.Pages.{whole_page}
use Rattle.pages.proofs.Turns.{sofar_fault, sofar_more, sofar_done, first_of, rest_got}
use Rattle.pages.proofs.text.read_pages.Goals as goal

pub returns-in_err-read : goal.returns-in_err-read
returns-in_err-read c =
    let p = err_from_is_err_and c.from_residual.result c.from_residual.ensures.1 in
    let o = ap (λ b. b.now) (sym c.loop.invariant.1) in
    rw (p.1, p.2)
    (sofar_fault _ _ _ _ _ c.loop.invariant.0 c.loop-test.true _ (rw o (c.in_err-read.ensures.0)), c.in_err-read.ensures.1 ∙ c.loop.invariant.1)

pub loop-preserved : goal.loop-preserved
loop-preserved c =
    let o = ap (λ b. b.now) (sym c.loop.invariant.1) in
    (sofar_more _ _ _ _ _ c.loop.invariant.0 c.loop-test.true c.in_ok-read.field-0 c.read.new.reader.at (rw o (c.in_ok-read.ensures.0)), c.in_ok-read.ensures.1 ∙ c.loop.invariant.1)

pub returns : goal.returns
returns c =
    let os = c.args.reader.now.octets.now in
    let at = c.args.reader.now.at in
    let s = c.loop.invariant.0 in
    let u : c.unwrap_or-octets.result.now ≡ drop at os = ap (λ b. b.now) c.unwrap_or-octets.ensures ∙ rest_got os at c.get.result _ c.get.ensures.lookup refl in
    let n : c.loop.counter ≡ c.args.count = omega arith in
    let l : length c.unwrap_or-octets.result.now ≡ length os - at = ap length u ∙ length-drop at os in
    let m : c.args.count ≤ length c.unwrap_or-octets.result.now / 84 = omega (arith, s.room) in
    let e : take c.args.count c.as_chunks.result.0.now ≡ first_chunks 84 c.args.count (drop at os)
    = ap (take c.args.count) c.as_chunks.ensures.front ∙ first_of _ c.args.count _ m ∙ ap (first_chunks 84 c.args.count) u in (
      sofar_done os at c.args.count c.loop.counter c.loop.reader.at s n
          ∙ ap (λ (es : List (List ℕ)). Ok (map whole_page es, c.loop.reader.at)) (sym e),
      c.loop.invariant.1,
    )
