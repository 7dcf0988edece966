-- The links that a host holds, by their kinds.
use Rattle.std.specs.Prelude.{List, map, Some, None, Option, vec_items}
use Rattle.law.specs.Steps.{Link}
use Rattle.law.specs.Steps.Link.{waiting, open_link, gone}
use Rattle.controller.specs.declared.links.Link.{Link as Held}
use Rattle.controller.specs.declared.links.Link.TheVariants.{Waiting, Open}
use Rattle.controller.specs.declared.links.held.HeldLinks.{HeldLinks}

abbrev pub kind_of_link : Held → Link
kind_of_link (Waiting l) = waiting
kind_of_link (Open l) = open_link

abbrev pub kind_of : Option Held → Link
kind_of None = gone
kind_of (Some l) = kind_of_link l

abbrev pub kinds_of : HeldLinks → List Link
kinds_of h = map kind_of (vec_items h.places)
