-- What a drill site means: a room of its own for each cell.
use Rattle.std.proofs.Common.{lit≤}
use Rattle.std.specs.Prelude.{◌≡◌, ℕ, ◌≢◌, slice_index}
use Rattle.site.specs.Model.{Model, Sound}
use Rattle.site.specs.CellStates.{cells_model, cells_sound}
use Rattle.site.specs.Events.{Event}
use Rattle.site.specs.Events.Event.{switched, started, offered}
use Rattle.site.specs.declared.drill.DrillSite.{DrillSite}

abbrev pub drill_model : DrillSite → Model
drill_model s = cells_model 512 s.cells (λ k. slice_index s.rooms k)

pub drill_sound : (s : DrillSite) → Sound (drill_model s)
drill_sound s = cells_sound 512 s.cells (λ k. slice_index s.rooms k) (lit≤ tt)

-- beside its meaning: a broadcast takes no room from another cell
abbrev pub DrillSteps : DrillSite → Event → DrillSite → Type 0
DrillSteps s (switched k b) t = Unit {0}
DrillSteps s started t = Unit {0}
DrillSteps s (offered k h m r) t = (j : ℕ) → j ≢ k → (drill_model t).room j ≡ (drill_model s).room j
