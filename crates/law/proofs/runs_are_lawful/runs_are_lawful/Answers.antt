use Rattle.answering.proofs.Fits.{replies_fit}
use Rattle.outcomes.proofs.Telling.{outcomes_tell}
use Rattle.law.proofs.Runs.{law}
use Rattle.law.proofs.runs_are_lawful.runs_are_lawful.Goals as goal

pub returns : goal.returns
returns g c = law g.S.Site.model g.S.Site.steps outcomes_tell (replies_fit outcomes_tell)
