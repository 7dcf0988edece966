-- The memory of a frame site over the calls of one period.
use Rattle.std.specs.Prelude.{◌≡◌, ℕ, ◌+◌, ◌*◌, ◌≤◌, cond, List, [], ◌∷◌, ◌++◌, length}
use Rattle.site.specs.Events.{Event, Goes, Chain}
use Rattle.site.specs.Events.Event.{switched, started, offered}
use Rattle.frame.specs.declared.frame_site.FrameSite.{FrameSite}
use Rattle.cbsp.specs.Octets.{put}
use Rattle.frame.specs.Record.{record_octets}
use Rattle.frame.specs.Frame.{frame_model, Steps, large}

-- no period starts in these calls
unfoldable pub WithinPeriod : List Event → Type 0
WithinPeriod [] = Unit {0}
WithinPeriod (switched k b ∷ es) = WithinPeriod es
WithinPeriod (started ∷ es) = ⊥
WithinPeriod (offered k h m r ∷ es) = WithinPeriod es

-- the octets of the broadcasts that were done, one behind the other
unfoldable pub frames_of : List Event → List ℕ
frames_of [] = []
frames_of (switched k b ∷ es) = frames_of es
frames_of (started ∷ es) = frames_of es
frames_of (offered k h m r ∷ es) = cond r (record_octets k h m) [] ++ frames_of es

-- the memory with octets behind those that are used, if it is large enough
abbrev pub behind : ℕ → List ℕ → List ℕ → List ℕ
behind used octets memory = cond (large (length memory)) (put octets used memory) memory

-- from s to t the octets of those broadcasts were written behind what was used, and nothing else
pub record Written (s : FrameSite) (es : List Event) (t : FrameSite) : Type 0 where
  pub lender : t.memory.ghost_name ≡ s.memory.ghost_name
  pub memory : t.memory.now ≡ behind s.used (frames_of es) s.memory.now

-- whatever is still broadcast in the period fits behind the octets that are used
abbrev pub Ample : FrameSite → Type 0
Ample s = s.used + 1322 * s.left ≤ 21152

-- the calls of one period write their broadcasts one behind the other
abbrev pub Packs : Type 0
Packs = (s t : FrameSite) (es : List Event) → Ample s → WithinPeriod es → Chain (Goes frame_model Steps) s es t → Written s es t
