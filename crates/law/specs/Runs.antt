-- Runs of calls from a table and a site just made.
use Rattle.std.specs.Prelude.{◌≡◌, ◌<◌, ◌≤◌, false, List, [], ◌∷◌, map, length, None}
use Rattle.cells.specs.declared.cell.Cell.{Cell}
use Rattle.cells.specs.File.{Apart}
use Rattle.site.specs.Model.{Model, New}
use Rattle.site.specs.Events.{Event}
use Rattle.law.specs.State.{State}
use Rattle.law.specs.Steps.{Moment, World, Step}

-- a checked list of cells
pub record Checked (cells : List Cell) : Type 0 where
  pub some : 0 < length cells
  pub few : length cells ≤ 64
  pub apart : Apart cells

-- a table just made over a checked list
pub record FreshTable (t : State) : Type 0 where
  pub checked : Checked t.cells
  pub rows : t.rows ≡ map (λ _. []) t.cells
  pub openings : t.openings ≡ 0
  pub announced : t.announced ≡ false
  pub ever : t.ever ≡ false
  pub periods : t.periods ≡ 0
  pub alive : t.alive ≡ None

module _ {S : Type 0} (model : S → Model) (steps : S → Event → S → Type 0) where
  -- a table and a site just made, and any links
  pub record Fresh (w : World S) : Type 0 where
    pub table : FreshTable w.table
    pub site : New (model w.site)

  -- the moments of a run from w to v, the newest first
  abbrev pub Run : World S → List Moment → World S → Type 0
  Run w [] v = v ≡ w
  Run w (m ∷ ms) v = (u : World S) × Run w ms u × Step model steps m u v
