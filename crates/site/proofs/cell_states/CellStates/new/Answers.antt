use Rattle.std.proofs.Common.{true, arith}
use Rattle.std.proofs.lemmas.Bool.Decides.{nat_tests}
use Rattle.std.proofs.lemmas.List.{get_or-replicate}
use Rattle.cbsp.specs.declared.channel.Channel.TheVariants.{Basic, Extended}
use Rattle.site.specs.declared.cell_states.CellState.{CellState}
use Rattle.site.specs.CellStates.{idle}
use Rattle.site.proofs.cell_states.CellStates.new.Goals as goal

abbrev begun : CellState
begun = record { «open» = true; basic = 0; extended = 0 }

pub returns : goal.returns
returns c = record {
  opened = λ k lt. let e = get_or-replicate 64 k begun idle lt in grind (arith, nat_tests, e);
  count = λ k. let e = get_or-replicate 64 k begun idle in elim [ Basic ↦ grind (arith, nat_tests, e) | Extended ↦ grind (arith, nat_tests, e) ];
}
