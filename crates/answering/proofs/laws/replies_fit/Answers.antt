use Rattle.answering.proofs.Fits.{replies_fit}
use Rattle.answering.proofs.laws.replies_fit.Goals as goal
use Rattle.outcomes.proofs.Telling.{outcomes_tell}

pub returns : goal.returns
returns c = replies_fit outcomes_tell
