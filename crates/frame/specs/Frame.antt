-- What a frame site means, and how each call moves its memory.
use Rattle.std.specs.Prelude.{◌≡◌, ℕ, ◌+◌, ◌≤◌, Bool, cond, ◌&&◌, List, length, Ok, Err, Result, nat_le, nat_lt}
use Rattle.std.proofs.Common.{lit≤}
use Rattle.cbsp.specs.declared.refusal.Refusal.{Refusal}
use Rattle.cbsp.specs.declared.refusal.Refusal.TheVariants.{FrameMemoryTooSmall}
use Rattle.site.specs.Model.{Model, Sound}
use Rattle.site.specs.CellStates.{cells_model, cells_sound}
use Rattle.site.specs.Events.{Event}
use Rattle.site.specs.Events.Event.{switched, started, offered}
use Rattle.frame.specs.declared.frame_site.FrameSite.{FrameSite}
use Rattle.cbsp.specs.Octets.{put}
use Rattle.frame.specs.Record.{record_octets}

-- the memory of sixteen broadcasts with fifteen pages each
abbrev pub memory_check : ℕ → Result (Unit {0}) Refusal
memory_check octets = cond (nat_lt octets 21152) (Err FrameMemoryTooSmall) (Ok tt)

-- one room for all cells
abbrev pub frame_model : FrameSite → Model
frame_model s = cells_model 16 s.cells (λ k. s.left)

pub frame_sound : (s : FrameSite) → Sound (frame_model s)
frame_sound s = cells_sound 16 s.cells (λ k. s.left) (lit≤ tt)

-- whether a memory of that size holds the longest broadcasts of a period
abbrev pub large : ℕ → Bool
large size = nat_le 21152 size

-- whether the longest broadcast fits behind so many octets; so it is all through a period
abbrev pub fits : ℕ → Bool
fits used = nat_le used 19830

-- a broadcast that is done is written behind those before it; nothing else is written
abbrev pub memory_after : ℕ → Event → List ℕ → List ℕ
memory_after used (switched k b) memory = memory
memory_after used started memory = memory
memory_after used (offered k h m r) memory = cond r (cond (large (length memory) && fits used) (put (record_octets k h m) used memory) memory) memory

-- the octets of the memory that are then used
abbrev pub used_after : ℕ → ℕ → Event → ℕ
used_after size used (switched k b) = used
used_after size used started = 0
used_after size used (offered k h m r) = cond r (cond (large size && fits used) (used + length (record_octets k h m)) used) used

-- the room that all cells then share
abbrev pub LeftAfter : ℕ → Event → ℕ → Type 0
LeftAfter left (switched k b) after = after ≡ left
LeftAfter left started after = after ≡ 16
LeftAfter left (offered k h m r) after = after + cond r 1 0 ≡ left

-- how a call moves a frame site beside its meaning; the memory is the lender's all along
pub record Steps (s : FrameSite) (e : Event) (t : FrameSite) : Type 0 where
  pub lender : t.memory.ghost_name ≡ s.memory.ghost_name
  pub memory : t.memory.now ≡ memory_after s.used e s.memory.now
  pub used : t.used ≡ used_after (length s.memory.now) s.used e
  pub most : t.used ≤ s.used + 1322
  pub left : LeftAfter s.left e t.left
