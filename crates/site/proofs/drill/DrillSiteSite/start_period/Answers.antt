use Rattle.std.proofs.Common.{ℕ, refl, arith}
use Rattle.std.proofs.lemmas.Bool.Decides.{nat_tests}
use Rattle.std.proofs.lemmas.List.{get_or-replicate}
use Rattle.site.proofs.drill.DrillSiteSite.start_period.Goals as goal

pub returns : goal.returns
returns c = record {
  meaning = record {
    room = λ k lt. let e = get_or-replicate {A = ℕ} 64 k 512 0 lt in grind (arith, nat_tests, e);
    opened = refl;
    count = refl;
    capacity = refl;
  };
  itself = tt;
}
