use Rattle.controller.proofs.Places.{none_held}
use Rattle.controller.proofs.links.held.HeldLinks.new.Goals as goal

pub returns-clause-none : goal.returns-clause-none
returns-clause-none c = none_held c.loop.places.items c.loop.invariant.none
