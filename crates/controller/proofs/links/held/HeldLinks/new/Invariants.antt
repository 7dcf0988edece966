use Rattle.std.proofs.Common.{◌≡◌, ℕ, ◌≤◌, None, get_or, vec_capacity, vec_len}
use Rattle.controller.proofs.links.held.HeldLinks.new.Given as goal

abbrev pub invariant-loop : goal.invariant-loop
invariant-loop l =
    record {
      len : vec_len l.places ≡ l.counter;
      room : l.count ≤ vec_capacity l.places;
      none : (n : ℕ) → get_or l.places.items n None ≡ None;
    }
