use Rattle.requests.proofs.RequestLaws.{requests_round_trip}
use Rattle.requests.proofs.laws.requests_round_trip.Goals as goal

pub returns : goal.returns
returns c = requests_round_trip
