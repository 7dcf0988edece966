-- What a call does at the site, and what a period comes to.
use Rattle.std.specs.Prelude.{◌≡◌, Some, None, Ok, Err, Result}
use Rattle.cbsp.specs.declared.refusal.Refusal.{Refusal}
use Rattle.site.specs.Model.{Model}
use Rattle.site.specs.Events.{Event}
use Rattle.law.specs.State.{State}
use Rattle.law.specs.Calls.{Call, refusal_of}
use Rattle.law.specs.Calls.Call.{period}
use Rattle.law.specs.Steps.{Period, SiteMoves}
use Rattle.controller.specs.Answers.{Came}
use Rattle.controller.specs.Answers.Came.{refused, accepted}

-- over any site
module _ {S : Type 0} (model : S → Model) (steps : S → Event → S → Type 0) where
  -- the site after a call: as the call has it where it is accepted, else as it was
  abbrev pub Moved : Call → S → S → Came → Type 0
  Moved c s s' (accepted n f) = SiteMoves model steps c s s'
  Moved c s s' (refused r) = s' ≡ s

  -- a table and a site before and after a period
  module _ (t : State) (s : S) (t' : State) (s' : S) where
    -- refused: all stays
    pub record Unmade (r : Refusal) : Type 0 where
      pub reason : refusal_of period t (model s).opened ≡ Some r
      pub table : t' ≡ t
      pub site : s' ≡ s

    pub record Made : Type 0 where
      pub reason : refusal_of period t (model s).opened ≡ None
      pub went : Period model steps t s t' s'

    abbrev pub Periods : Result (Unit {0}) Refusal → Type 0
    Periods (Ok u) = Made
    Periods (Err r) = Unmade r
