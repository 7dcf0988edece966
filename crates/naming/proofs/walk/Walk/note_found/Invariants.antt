use Rattle.std.proofs.Common.{◌≤◌}
use Rattle.naming.specs.Namings.{at_most}
use Rattle.naming.specs.Walks.{SameLoans, stage_of}
use Rattle.naming.proofs.Stepping.{Walked}
use Rattle.naming.proofs.walk.Walk.note_found.Given as goal

abbrev pub invariant-loop-k : goal.invariant-loop-k
invariant-loop-k l = record {
  walked : Walked l.identity l.cells l.k l.found (stage_of l.self) (stage_of l.initial.self) l.self.next l.initial.self.next;
  room : at_most (stage_of l.self) ≤ 192;
  same : SameLoans l.initial.self l.self;
}
