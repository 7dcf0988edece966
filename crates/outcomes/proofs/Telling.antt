-- The outcomes of every request tell what became of the messages.
use Rattle.std.proofs.Common.{None, refl}
use Rattle.outcomes.specs.Tells.{OutcomesTell}
use Rattle.outcomes.proofs.Handling.{tells}
use Rattle.outcomes.proofs.Requests.{kill_local, query_local, reset_local, write_local}

pub outcomes_tell : OutcomesTell
outcomes_tell =
    record {
      kill = λ cells opened key rows list long. tells (kill_local key) cells opened (record { key = key }) rows list refl long;
      query = λ cells opened key rows list long. tells query_local cells opened (record { key = key }) rows list tt long;
      reset = λ cells opened rows list long. tells reset_local cells opened (record {}) rows list tt long;
      write = λ cells opened q rows list long. tells (write_local q) cells opened (record { asked = q; slot = None }) rows list refl long;
    }
