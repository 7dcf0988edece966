-- What the results of the calls tell the host.
use Rattle.std.specs.Prelude.{ℕ, None, Ok, Err, Result}
use Rattle.cbsp.specs.declared.refusal.Refusal.{Refusal}
use Rattle.controller.specs.declared.links.WaitingLink.{WaitingLink}
use Rattle.controller.specs.declared.state.linking.Announced.{Announced}
use Rattle.controller.specs.declared.state.linking.NotAnnounced.{NotAnnounced}
use Rattle.controller.specs.declared.state.message.Answered.{Answered}
use Rattle.controller.specs.Answers.{Came}
use Rattle.controller.specs.Answers.Came.{refused, accepted}

abbrev pub came_opening : Result WaitingLink Refusal → Came
came_opening (Ok l) = accepted 0 None
came_opening (Err r) = refused r

abbrev pub came_announcing : Result Announced NotAnnounced → Came
came_announcing (Ok a) = accepted a.len None
came_announcing (Err e) = refused e.refusal

abbrev pub came_messaging : Result Answered Refusal → Came
came_messaging (Ok a) = accepted a.len a.fault
came_messaging (Err r) = refused r

abbrev pub came_switching : Result ℕ Refusal → Came
came_switching (Ok n) = accepted n None
came_switching (Err r) = refused r
