-- The step of WRITE-REPLACE, part by part.
use Rattle.std.proofs.Common.{◌≡◌, ℕ, cond, List, [], ◌∷◌, ◌++◌, get_or, set, is_ok, is_some, Some, None, Option, Result, unwrap_or, refl, ap, ◌∙◌}
use Rattle.std.specs.Result.{result_err}
use Rattle.elements.specs.declared.cause.Cause.{Cause}
use Rattle.rows.specs.declared.row.Row.{Row}
use Rattle.table.specs.declared.outcome.Outcome.{Outcome}
use Rattle.table.specs.declared.write.Write.{Write}
use Rattle.table.specs.Outcomes.{outcome}
use Rattle.table.specs.Settings.{Setting, here, replaced}
use Rattle.table.specs.Write.{bar, blocked, cut, ended_by, row_of, slot_for, unless, cleared, slot_now, cause_now, answer_write, written, write_after}

-- an answer that is Ok unless there is a cause
pub cause_of : (b : Option Cause) (r : Result Unit Cause) → r ≡ unless b tt → result_err r ≡ b
cause_of None r e = rw e refl
cause_of (Some c) r e = rw e refl

flipped : {X : Type 0} (b : Option Cause) (r : Result Unit Cause) (x y : X) → r ≡ unless b tt → cond (is_ok r) x y ≡ cond (is_some b) y x
flipped None r x y e = rw e refl
flipped (Some c) r x y e = rw e refl

module _ (w : Write) (s : Setting) where
  -- what a step gives back
  pub record Stepped (o : Outcome) (rows : List (List Row)) (after : Write) : Type 0 where
    pub answer : o ≡ answer_write w s
    pub leaves : rows ≡ written w s
    pub becomes : after ≡ write_after w s

  -- nothing is done
  pub stopped : (x : Cause) → Some x ≡ bar w s → Stepped (outcome s.cell None (Some x)) s.rows w
  unfolding cleared slot_now cause_now answer_write written write_after
  stopped x e = record { answer = rw (← e); leaves = rw (← e); becomes = rw (← e) }

  -- the old message ended, and the new one began or not
  pub went_on : (us vs : List (List Row)) (n m : Option ℕ) (r : Result Unit Cause) → None ≡ bar w s → n ≡ ended_by w.asked w.asked.old (here s)
      → us ≡ replaced s (cut w.asked w.asked.old (here s))
      → r ≡ unless (blocked w.asked (get_or us s.cell []) (slot_for us w.slot)) tt
      → vs ≡ cond (is_ok r) (set us s.cell (get_or us s.cell [] ++ row_of w.asked (unwrap_or (slot_for us w.slot) 0) ∷ [])) us
      → m ≡ cond (is_ok r) (slot_for us w.slot) w.slot
      → Stepped (outcome s.cell n (result_err r)) vs (record { asked = w.asked; slot = m })
  unfolding cleared slot_now cause_now answer_write written write_after
  went_on us vs n m r e en eu er ev em =
      let b = blocked w.asked (get_or us s.cell []) (slot_for us w.slot) in
      record {
        answer = rw (← e, en, cause_of b r er, eu);
        leaves = ev ∙ flipped b r _ us er ∙ rw (← e, eu);
        becomes = ap (λ (o : Option ℕ). record { asked = w.asked; slot = o }) (em ∙ flipped b r _ w.slot er ∙ rw (← e, eu));
      }
