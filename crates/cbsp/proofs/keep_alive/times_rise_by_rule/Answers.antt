use Rattle.std.proofs.Common.{ℕ, ◌+◌, Bool, eqb, ◌∷◌, get_or, refl}
use Rattle.std.proofs.lemmas.Bool.{eqb-true}
use Rattle.cbsp.specs.KeepAlive.{Edges, Stepped, step, times}
use Rattle.cbsp.proofs.Tables.{at_each}
use Rattle.cbsp.proofs.keep_alive.times_rise_by_rule.Goals as goal

abbrev right : ℕ → Bool
right k = eqb (get_or times k 0) (get_or (0 ∷ times) k 0 + step (k + 1))

stepped : Stepped
stepped k l = eqb-true (get_or times k 0) (get_or (0 ∷ times) k 0 + step (k + 1)) (at_each right 38 refl k l)

edges : Edges
edges = record { code_11 = refl; code_20 = refl; code_21 = refl; code_38 = refl }

pub returns : goal.returns
returns c = record { stepped = stepped; edges = edges }
