use Rattle.std.proofs.Common.{ℕ, arith}
use Rattle.std.proofs.lemmas.Bool.Decides.{nat_tests}
use Rattle.std.proofs.lemmas.List.{get_or-replicate}
use Rattle.site.proofs.drill.DrillSite.new.Goals as goal

pub returns : goal.returns
returns c = record {
  opened = c.new.ensures.opened;
  room = λ k. let e = get_or-replicate {A = ℕ} 64 k 0 0 in grind (arith, nat_tests, e);
  count = c.new.ensures.count;
}
