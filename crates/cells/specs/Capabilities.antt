-- The octet of a cell file that says on which channels a cell can broadcast.
use Rattle.std.specs.Prelude.{ℕ, cond, Some, None, Option, ◌==◌}
use Rattle.cells.specs.declared.cell.Capability.{Capability}
use Rattle.cells.specs.declared.cell.Capability.TheVariants.{NoChannel, BasicOnly, BothChannels}

abbrev pub capability_code : Capability → ℕ
capability_code NoChannel = 0
capability_code BasicOnly = 1
capability_code BothChannels = 3

abbrev pub capability_in : ℕ → Option Capability
capability_in o = cond (o == 0) (Some NoChannel) (cond (o == 1) (Some BasicOnly) (cond (o == 3) (Some BothChannels) None))
