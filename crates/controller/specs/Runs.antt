-- Runs of calls on a world: moments, newest first, by the rules of the calls.
use Rattle.std.specs.Prelude.{◌≡◌, ℕ, List, [], ◌∷◌, ◌++◌, map, reverse}
use Rattle.cbsp.specs.Octets.{put}
use Rattle.site.specs.Model.{Model}
use Rattle.site.specs.Events.{Event}
use Rattle.law.specs.Calls.{Call}
use Rattle.law.specs.Steps.{Moment, World}
use Rattle.law.specs.Runs.{Fresh, Run}
use Rattle.law.specs.Law.{Holds}
use Rattle.controller.specs.declared.world.Report.{Report}
use Rattle.controller.specs.Moments.{marks_by, report_of}

-- a watcher was told what came of each moment's call, and the octets that were sent
abbrev pub Watched : {W : Type 0} → (W → Report → List ℕ → W → Type 0) → W → List Moment → W → Type 0
Watched tells u [] v = v ≡ u
Watched {W} tells u (m ∷ ms) v = (x : W) × Watched tells u ms x × tells x (report_of m) m.sent v

-- the space after moments: each wrote what it sent from the start, and left the rest
abbrev pub space_after : List Moment → List ℕ → List ℕ
space_after [] was = was
space_after (m ∷ ms) was = put m.sent 0 (space_after ms was)

-- the marks after moments
abbrev pub marks_after : List Moment → List ℕ → List ℕ
marks_after [] was = was
marks_after (m ∷ ms) was = marks_by (report_of m) m.call (marks_after ms was)

-- what the host lends to calls
pub record Lent : Type 0 where
  pub marks : List ℕ
  pub space : List ℕ

-- over any site and any watcher
module _ {S W : Type 0} (model : S → Model) (steps : S → Event → S → Type 0) (tells : W → Report → List ℕ → W → Type 0) where
  -- calls were made one after the other, from w to v, with l lent, which is k after them, and a watcher was told of each
  pub record Ran (calls : List Call) (w v : World S) (l k : Lent) (u x : W) : Type 0 where
    pub moments : List Moment
    pub made : map (λ m. m.call) moments ≡ reverse calls
    pub run : Run model steps w moments v
    pub watched : Watched tells u moments x
    pub marks : k.marks ≡ marks_after moments l.marks
    pub space : k.space ≡ space_after moments l.space
    -- where w came of a run from a table and a site just made, the law of runs holds of both runs together
    pub lawful : (f : World S) (ms : List Moment) → Fresh model steps f → Run model steps f ms w
        → Run model steps f (moments ++ ms) v × Holds (moments ++ ms) v.table (model v.site)
