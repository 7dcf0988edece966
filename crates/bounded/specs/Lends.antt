-- What a list ends as, where its items are lent for writing.
use Rattle.std.specs.Prelude.{List, length}
use Rattle.std.specs.List.{refill}
use Rattle.std.specs.Borrow.{Lends, Fml, RattleType, MutBor, Array}
use Rattle.bounded.specs.contracts.list.Bounded.{the_row}

-- once the borrow r ends, the items are those that r shows last, as many as there were
abbrev pub lends_slice : (T N : RattleType) → MutBor (List T.Denot) → MutBor (List T.Denot) → Fml
lends_slice T N v r = Lends (the_row T N) (Array T 0) v r (refill (length v.now) v.now)
