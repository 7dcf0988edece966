use Rattle.std.proofs.Common.{arith}
use Rattle.requests.proofs.RequestLaws.{requests_round_trip}
use Rattle.requests.specs.Requests.{request_meant}
use Rattle.controller.proofs.state.Table.take.Goals as goal

pub carry_out-len-requires-clause-fits : goal.carry_out-len-requires-clause-fits
carry_out-len-requires-clause-fits g c =
    (requests_round_trip.0 c.args.octets.now (request_meant c.in-Ok.request) (λ k. omega (arith, c.type_inv.octets k)) c.requires.headed c.in-Ok.ensures).1
