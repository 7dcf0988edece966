-- What a writer has written.
use Rattle.std.specs.Prelude.{◌≡◌, ◌+◌, ◌≤◌, ℕ, Bool, cond, List, length, nat_le, Some, None, Option}
use Rattle.elements.specs.declared.writer.Writer.{Writer}
use Rattle.cbsp.specs.Octets.{put}

-- xs was written from the writer's place, nothing else changed, and the writer stands behind it
pub record Writes (xs : List ℕ) (was is : Writer) : Type 0 where
  pub lender : is.out.ghost_name ≡ was.out.ghost_name
  pub octets : is.out.now ≡ put xs was.at was.out.now
  pub place : is.at ≡ was.at + length xs

-- so many octets fit behind the writer's place
abbrev pub Room : List ℕ → Writer → Type 0
Room xs w = w.at + length xs ≤ length w.out.now

-- as many octets, nothing where they are more than two octets count
abbrev pub limit : ℕ → Option ℕ
limit n = cond (nat_le n 65535) (Some n) None

-- how many octets a value has, nothing where it is out of range or has too many
abbrev pub limited : Bool → List ℕ → Option ℕ
limited fits xs = cond fits (limit (length xs)) None
