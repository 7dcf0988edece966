use Rattle.std.proofs.Common.{length, refl}
use Rattle.controller.specs.Links.{waiting_number}
use Rattle.controller.proofs.state.Table.announce.Goals as goal

pub returns-in-Err-clause-answers : goal.returns-in-Err-clause-answers
returns-in-Err-clause-answers c = λ opened. record { reason = c.in-Err.ensures.passed opened; table = refl; space = refl }

pub returns-in-Ok-clause-answers : goal.returns-in-Ok-clause-answers
returns-in-Ok-clause-answers c =
    λ opened. record {
      reason = c.in-Ok.ensures.passed opened;
      reacted = c.restart-len.ensures (waiting_number c.args.link) (length c.args.space.now) opened;
      fault = refl;
    }
