-- What a site means, and what each call does to that meaning. Cells have numbers from 0; a site has 64.
use Rattle.std.specs.Prelude.{◌≡◌, ℕ, ◌+◌, ◌^◌, ◌<◌, ◌≤◌, Bool, true, false, ◌≢◌, ◌⊎◌}
use Rattle.cbsp.specs.declared.channel.Channel.{Channel}

-- what a site shows
pub record Model : Type 0 where
  -- the room of every cell when a period starts
  pub capacity : ℕ
  -- whether a cell is open
  pub opened : ℕ → Bool
  -- the broadcasts that a cell can still do in the period
  pub room : ℕ → ℕ
  -- the broadcasts done in a cell on a channel
  pub count : ℕ → Channel → ℕ

-- a number that no cell has
pub record Past (m : Model) (k : ℕ) : Type 0 where
  pub opened : m.opened k ≡ false
  pub room : m.room k ≡ 0
  pub count : (h : Channel) → m.count k h ≡ 0

-- what holds of every site
pub record Sound (m : Model) : Type 0 where
  pub past : (k : ℕ) → 64 ≤ k → Past m k
  pub roomy : 1 ≤ m.capacity

-- a site just made: all cells open, no room yet, nothing counted
pub record New (m : Model) : Type 0 where
  pub opened : (k : ℕ) → k < 64 → m.opened k ≡ true
  pub room : (k : ℕ) → m.room k ≡ 0
  pub count : (k : ℕ) (h : Channel) → m.count k h ≡ 0

-- a cell was closed (false) or opened (true), and nothing else changed
pub record Switched (cell : ℕ) (b : Bool) (m n : Model) : Type 0 where
  pub there : cell < 64 → n.opened cell ≡ b
  pub elsewhere : (k : ℕ) → k ≢ cell → n.opened k ≡ m.opened k
  pub past : 64 ≤ cell → n.opened ≡ m.opened
  pub room : n.room ≡ m.room
  pub count : n.count ≡ m.count
  pub capacity : n.capacity ≡ m.capacity

-- a period started, and nothing but rooms changed
pub record Started (m n : Model) : Type 0 where
  pub room : (k : ℕ) → k < 64 → n.room k ≡ m.capacity
  pub opened : n.opened ≡ m.opened
  pub count : n.count ≡ m.count
  pub capacity : n.capacity ≡ m.capacity

-- when a broadcast is done
pub record Can (m : Model) (cell : ℕ) (channel : Channel) : Type 0 where
  pub within : cell < 64
  pub opened : m.opened cell ≡ true
  pub room : 0 < m.room cell
  pub count : m.count cell channel < 2 ^ 48

-- what a broadcast does; whether it takes room from other cells too is the site's choice
pub record Done (m n : Model) (cell : ℕ) (channel : Channel) : Type 0 where
  pub count : n.count cell channel ≡ m.count cell channel + 1
  pub other : (k : ℕ) (h : Channel) → (k ≢ cell) ⊎ (h ≢ channel) → n.count k h ≡ m.count k h
  pub room : n.room cell + 1 ≡ m.room cell
  pub rooms : (k : ℕ) → k ≢ cell → (n.room k ≡ m.room k) ⊎ (n.room k + 1 ≡ m.room k)
  pub opened : n.opened ≡ m.opened
  pub capacity : n.capacity ≡ m.capacity

-- a message was offered and answered r: done exactly when it can be, else nothing changed
pub record Offered (cell : ℕ) (channel : Channel) (r : Bool) (m n : Model) : Type 0 where
  pub can : r ≡ true → Can m cell channel
  pub must : Can m cell channel → r ≡ true
  pub done : r ≡ true → Done m n cell channel
  pub kept : r ≡ false → n ≡ m
