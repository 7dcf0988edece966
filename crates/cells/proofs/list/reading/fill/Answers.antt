use Rattle.std.proofs.Common.{◌≡◌, ℕ, false, List, subst, arith, rules, length-append}
use Rattle.std.proofs.lemmas.List.FromFn.{map-range_with_len_more}
use Rattle.cells.specs.File.{cell_at, cells_in, identity_at, repeated}
use Rattle.cells.proofs.Identities.{distinct_in}
use Rattle.cells.proofs.list.reading.fill.Goals as goal

pub loop-k-preserved : goal.loop-k-preserved
loop-k-preserved c =
    let more = map-range_with_len_more (cell_at c.args.file.now.octets.now) 0 c.loop-k.k c.loop-k.k (omega arith) in
    (cc, (rw c.push_reserved.ensures (grind (arith, length-append))))

pub returns-clause-distinct : goal.returns-clause-distinct
returns-clause-distinct c =
    let os : List ℕ = c.args.file.now.octets.now in
    let apart = subst (λ (n : ℕ). repeated (identity_at os) n ≡ false) c.args.file.now.fits.count c.requires in
    let items : c.loop-k.cells ≡ cells_in os = search rules in
    rw items (distinct_in os apart)
