use Rattle.outcomes.proofs.Telling.{outcomes_tell}
use Rattle.outcomes.proofs.outcomes_tell.Goals as goal

pub returns : goal.returns
returns c = outcomes_tell
