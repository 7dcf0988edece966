use Rattle.answers.proofs.AnswerLaws.{answers_round_trip}
use Rattle.answers.proofs.laws.answers_round_trip.Goals as goal

pub returns : goal.returns
returns c = answers_round_trip
