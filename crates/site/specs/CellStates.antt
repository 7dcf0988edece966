-- What a site shows by the states of its cells, and how the calls on them move that.
use Rattle.std.specs.Prelude.{◌≡◌, ℕ, ◌+◌, ◌^◌, ◌<◌, ◌≤◌, Bool, true, false, cond, ◌≢◌, ◌⊎◌, nat_lt, slice_index_or}
use Rattle.std.proofs.Common.{le-ltb}
use Rattle.cbsp.specs.declared.channel.Channel.{Channel}
use Rattle.cbsp.specs.declared.channel.Channel.TheVariants.{Basic, Extended}
use Rattle.site.specs.Model.{Model, Sound}
use Rattle.site.specs.declared.cell_states.CellState.{CellState}
use Rattle.site.specs.declared.cell_states.CellStates.{CellStates}

-- x at a cell that a site has, else d
abbrev pub within : {A : Type 0} → ℕ → A → A → A
within k x d = cond (nat_lt k 64) x d

-- closed, nothing counted
abbrev pub idle : CellState
idle = record { «open» = false; basic = 0; extended = 0 }

-- what is kept of a cell
abbrev pub cell_at : CellStates → ℕ → CellState
cell_at c k = within k (slice_index_or c.cells k idle) idle

abbrev pub open_at : CellStates → ℕ → Bool
open_at c k = (cell_at c k).«open»

-- the count on a channel
abbrev pub count_of : CellState → Channel → ℕ
count_of s Basic = s.basic
count_of s Extended = s.extended

abbrev pub count_at : CellStates → ℕ → Channel → ℕ
count_at c k h = count_of (cell_at c k) h

-- what a site shows that gives each cell such a room
abbrev pub cells_model : ℕ → CellStates → (ℕ → ℕ) → Model
cells_model capacity c room = record { capacity = capacity; opened = open_at c; room = λ k. within k (room k) 0; count = count_at c }

pub cells_sound : (capacity : ℕ) (c : CellStates) (room : ℕ → ℕ) → 1 ≤ capacity → Sound (cells_model capacity c room)
cells_sound capacity c room h = record {
  past = λ k le. let e = le-ltb k 64 le in record { opened = rw e; room = rw e; count = elim [ Basic ↦ rw e | Extended ↦ rw e ] };
  roomy = h;
}

-- all open, nothing counted
pub record Fresh (c : CellStates) : Type 0 where
  pub opened : (k : ℕ) → k < 64 → open_at c k ≡ true
  pub count : (k : ℕ) (h : Channel) → count_at c k h ≡ 0

-- one cell became open or closed
pub record Turned (cell : ℕ) (b : Bool) (c d : CellStates) : Type 0 where
  pub there : cell < 64 → open_at d cell ≡ b
  pub elsewhere : (k : ℕ) → k ≢ cell → open_at d k ≡ open_at c k
  pub past : 64 ≤ cell → d ≡ c
  pub count : count_at d ≡ count_at c

-- one broadcast more was counted, or nothing was done
pub record Raised (cell : ℕ) (channel : Channel) (r : Bool) (c d : CellStates) : Type 0 where
  pub within : r ≡ true → cell < 64
  pub opened : r ≡ true → open_at c cell ≡ true
  pub below : r ≡ true → count_at c cell channel < 2 ^ 48
  pub must : open_at c cell ≡ true → count_at c cell channel < 2 ^ 48 → r ≡ true
  pub count : r ≡ true → count_at d cell channel ≡ count_at c cell channel + 1
  pub other : (k : ℕ) (h : Channel) → (k ≢ cell) ⊎ (h ≢ channel) → count_at d k h ≡ count_at c k h
  pub stays : open_at d ≡ open_at c
  pub kept : r ≡ false → d ≡ c
