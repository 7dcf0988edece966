-- The numbers of links.
use Rattle.std.specs.Prelude.{ℕ, Some, None, Option}
use Rattle.controller.specs.declared.links.WaitingLink.{WaitingLink}
use Rattle.controller.specs.declared.links.OpenLink.{OpenLink}
use Rattle.controller.specs.declared.links.Link.{Link}
use Rattle.controller.specs.declared.links.Link.TheVariants.{Waiting, Open}

-- the opening that a link came from
abbrev pub waiting_number : WaitingLink → ℕ
waiting_number l = l.number

abbrev pub open_number : OpenLink → ℕ
open_number l = l.number

abbrev pub link_number : Link → ℕ
link_number (Waiting l) = waiting_number l
link_number (Open l) = open_number l

-- the number of a link, or n where there is none
abbrev pub number_or : ℕ → Option Link → ℕ
number_or n None = n
number_or n (Some l) = link_number l
