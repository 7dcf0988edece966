use Rattle.frame.proofs.Framing.{framed}
use Rattle.frame.proofs.period.air_frames.Goals as goal

pub returns : goal.returns
returns c = framed c.args.site.now c.air.new.site c.args.offers.now c.air.result c.air.ensures
