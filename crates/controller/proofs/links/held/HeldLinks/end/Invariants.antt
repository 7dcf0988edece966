use Rattle.std.proofs.Common.{vec_len}
use Rattle.controller.proofs.links.held.HeldLinks.end.Given as goal

abbrev pub decreases-loop-place : goal.decreases-loop-place
decreases-loop-place l = vec_len l.places
