-- The values of a Channel Indicator.
use Rattle.std.specs.Prelude.{ℕ, List, codes, cond, Some, None, Option, ◌==◌}
use Rattle.cbsp.specs.declared.channel.Channel.{Channel}
use Rattle.cbsp.specs.declared.channel.Channel.TheVariants.{Basic, Extended}

abbrev pub channel_code : Channel → ℕ
channel_code Basic = 0
channel_code Extended = 1

abbrev pub channel_of : ℕ → Option Channel
channel_of o = cond (o == 0) (Some Basic) (cond (o == 1) (Some Extended) None)

-- its name in the standard
abbrev pub channel_name : Channel → List ℕ
channel_name Basic = codes "basic channel"
channel_name Extended = codes "extended channel"
