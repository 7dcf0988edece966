use Rattle.std.proofs.Common.{arith}
use Rattle.messages.specs.Messages.{message_meant}
use Rattle.writing.proofs.Back.{reads_back_from}
use Rattle.writing.proofs.writing.write_message.Goals as goal

pub returns-in-Request-clause-back : goal.returns-in-Request-clause-back
returns-in-Request-clause-back c =
    reads_back_from (message_meant c.args.message) c.args.out.now c.write_request.new.out c.write_request.result (λ k. omega (arith, c.type_inv.out k)) (rw c.in-Request.is c.write_request.ensures)

pub returns-in-Answer-clause-back : goal.returns-in-Answer-clause-back
returns-in-Answer-clause-back c =
    reads_back_from (message_meant c.args.message) c.args.out.now c.write_answer.new.out c.write_answer.result (λ k. omega (arith, c.type_inv.out k)) (rw c.in-Answer.is c.write_answer.ensures)
