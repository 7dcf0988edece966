use Rattle.messages.proofs.MessageLaws.{round_trip}
use Rattle.messages.proofs.laws.messages_round_trip.Goals as goal

pub returns : goal.returns
returns c = round_trip
