-- Accepted calls that are no period keep the invariant, each by what it does and by what is told of it.
use Rattle.std.proofs.Common.{◌≡◌, ℕ, ◌<◌, Bool, true, false, cond, eqb, ◌⊎◌, List, [], ◌∷◌, map, length, get_or, set, Some, None, sym, refl, ap, ◌∙◌, subst, inl, inr, arith}
use Rattle.std.proofs.lemmas.Bool.{and_parts, both_ways, cases_eq, eq-eqb, ne_eqb}
use Rattle.std.proofs.lemmas.List.{get_or-set_same, get_or-set_other, length-set}
use Rattle.answering.specs.Fitting.{RepliesFit, Spelt}
use Rattle.answering.specs.Replies.{entry_of, failure_for, restart_for}
use Rattle.book.specs.Told.{Told, told, on_restart}
use Rattle.book.specs.Told.Told.{silent}
use Rattle.cbsp.specs.declared.refusal.Refusal.{Refusal}
use Rattle.cells.specs.declared.cell.Capability.TheVariants.{NoChannel}
use Rattle.cells.specs.File.{identities}
use Rattle.elements.specs.declared.cause.Cause.TheVariants.{CellBroadcastNotOperational}
use Rattle.elements.specs.declared.recovery.Recovery.{Recovery}
use Rattle.elements.specs.declared.recovery.Recovery.TheVariants.{Available, Lost}
use Rattle.lists.specs.CellLists.{named}
use Rattle.lists.specs.Entries.{Entry}
use Rattle.outcomes.specs.Tells.{OutcomesTell}
use Rattle.rows.specs.declared.row.Row.{Row}
use Rattle.site.specs.Events.{Event}
use Rattle.site.specs.Model.{Model}
use Rattle.law.specs.Calls.{Call, entry_at, first_refusal, is_stale, octets_of, reaction, recovery_of}
use Rattle.law.specs.Calls.Call.{announcing, losing, opening, returning, shutting}
use Rattle.law.specs.State.{State, with_link}
use Rattle.law.specs.Steps.{Moment, Reacts}
use Rattle.law.proofs.Changes.{emptied_change, not_spoiled, silent_change}
use Rattle.law.proofs.Invariants.{Change, Invariant, Next, quietly}
use Rattle.law.proofs.Listing.{one_listed}
use Rattle.law.proofs.Telling.{told_spelt}
use Rattle.law.proofs.Tying.{either}

-- a call that is not refused: no condition holds
abbrev pub NoneHolds : List (Bool × Refusal) → Type 0
NoneHolds [] = Unit {0}
NoneHolds (c ∷ cs) = (c.0 ≡ false) × NoneHolds cs

pub none_holds : (cs : List (Bool × Refusal)) → first_refusal cs ≡ None → NoneHolds cs
none_holds [] e = tt
none_holds (c ∷ cs) e = go (none_holds cs) c.0 refl e
  where
    go : (first_refusal cs ≡ None → NoneHolds cs) → (b : Bool) → c.0 ≡ b → cond b (Some c.1) (first_refusal cs) ≡ None → (c.0 ≡ false) × NoneHolds cs
    go more true q e = absurd cc
    go more false q e = (q, more e)

-- the messages of all cells, where those of cell k are emptied
set_rows : (rows : List (List Row)) (k j : ℕ) → k < length rows → get_or (set rows k []) j [] ≡ cond (eqb j k) [] (get_or rows j [])
set_rows rows k j l = go (cases_eq j k)
  where
    go : (j ≡ k) ⊎ (j ≡ k → ⊥) → get_or (set rows k []) j [] ≡ cond (eqb j k) [] (get_or rows j [])
    go (inl e) = rw (eq-eqb j k e, e) (get_or-set_same rows k [] [] l)
    go (inr ne) = rw (ne_eqb j k ne) (get_or-set_other rows k j [] [] ne)

module _ {S : Type 0} (model : S → Model) (steps : S → Event → S → Type 0) (tells : OutcomesTell) (fits : RepliesFit) (ms : List Moment) (m : Moment)
    (t u : State) (s v : S) (i : Invariant ms t (model s)) (before : m.before ≡ model s) (after : m.after ≡ model v) (went : m.went ≡ None) where
  abbrev pub opened : ℕ → Bool
  opened = (model s).opened

  -- a call by the change that it makes to the table, and by what is told of it
  pub carried : (c : Call) (x : Told) → m.call ≡ c → Reacts model steps c t s u v m.sent → told (octets_of (reaction c t opened).reply) ≡ x
      → Change ms c x t (reaction c t opened).table → (model v).count ≡ (model s).count → Next ms m t u (model v)
  carried c x e r y change counts =
      quietly ms m t u (model s) (model v) x i
      (subst (λ (d : Call). Change ms d x t u) (sym e) (subst (λ (z : State). Change ms c x t z) (sym r.table) change))
      before after (ap told r.sends ∙ y) went counts

  -- a link is opened: the table is not announced
  pub opened_again : m.call ≡ opening → Reacts model steps opening t s u v m.sent → Next ms m t u (model v)
  opened_again e r =
      carried opening silent e r refl
      (silent_change ms opening t _ (model s) i (record { cells = refl; long = refl; periods = refl; heard = λ q. absurd (both_ways false refl q) }) refl (λ k l. refl))
      (ap (λ (x : S). (model x).count) r.site)

  -- a link is shut: a table that is announced then was so before
  pub shut : (link : ℕ) → m.call ≡ shutting link → Reacts model steps (shutting link) t s u v m.sent → Next ms m t u (model v)
  shut link e r =
      carried (shutting link) silent e r refl
      (silent_change ms (shutting link) t _ (model s) i
      (record { cells = refl; long = refl; periods = refl; heard = λ q. i.heard (and_parts (is_stale link t) t.announced q).1 }) refl (λ k l. refl))
      (ap (λ (x : S). (model x).count) r.site)

  -- the first announcing says that all messages are lost, and the table has none
  pub announced_again : (link space : ℕ) → m.call ≡ announcing link space → Reacts model steps (announcing link space) t s u v m.sent → Next ms m t u (model v)
  announced_again link space e r =
      carried (announcing link space) (on_restart (recovery_of t.ever) (named (map entry_of t.cells))) e r
      (told_spelt (restart_for (map entry_of t.cells) (recovery_of t.ever)) (fits.restart t.cells (recovery_of t.ever) i.checked.some i.checked.few))
      (said t.ever refl)
      (ap (λ (x : S). (model x).count) r.site)
    where
      said : (b : Bool) → t.ever ≡ b → Change ms (announcing link space) (on_restart (recovery_of b) (named (map entry_of t.cells))) t (with_link t t.openings true true)
      said true q =
          silent_change ms (announcing link space) t _ (model s) i (record { cells = refl; long = refl; periods = refl; heard = λ _. refl }) (sym q) (λ k l. refl)
      said false q =
          emptied_change ms (announcing link space) t _ (model s) i (record { cells = refl; long = refl; periods = refl; heard = λ _. refl })
          (on_restart Lost (named (map entry_of t.cells))) (map entry_of t.cells) (λ j ss. refl) (λ j bs. refl) (λ j h. refl)
          (λ k l. rw (i.unheard q k l) (sym (either _ [])))
          (λ k l z. refl) refl

  -- the cell is closed, and its messages stay
  pub lost : (link k space : ℕ) → m.call ≡ losing link k space → Reacts model steps (losing link k space) t s u v m.sent → Next ms m t u (model v)
  lost link k space e r =
      carried (losing link k space) silent e r
      (told_spelt (failure_for t.cells k CellBroadcastNotOperational) (fits.failure t.cells k CellBroadcastNotOperational))
      (silent_change ms (losing link k space) t _ (model s) i (record { cells = refl; long = refl; periods = refl; heard = i.heard }) refl (λ j l. refl))
      r.site.meaning.count

  -- the indication of one cell can be spelt
  one_spelt : (k : ℕ) (recovery : Recovery) → Spelt (restart_for (entry_at t.cells k ∷ []) recovery)
  one_spelt k recovery = fits.restart (get_or t.cells k (record { identity = record { lac = 0; ci = 0 }; capability = NoChannel }) ∷ []) recovery (omega arith) (omega arith)

  -- the cell is opened, and the host says whether its messages are there still
  pub returned :
      (link k space : ℕ) (recovery : Recovery) → t.announced ≡ true → k < length t.cells → m.call ≡ returning link k recovery space
      → Reacts model steps (returning link k recovery space) t s u v m.sent → Next ms m t u (model v)
  returned link k space Available announced l e r =
      carried (returning link k Available space) silent e r (told_spelt (restart_for (entry_at t.cells k ∷ []) Available) (one_spelt k Available))
      (silent_change ms (returning link k Available space) t _ (model s) i (record { cells = refl; long = refl; periods = refl; heard = i.heard }) refl (λ j q. refl))
      r.site.meaning.count
  returned link k space Lost announced l e r =
      let c = returning link k Lost space in
      let list : List Entry = entry_at t.cells k ∷ [] in
      let x : Told = on_restart Lost (named list) in
      let there : k < length t.rows = omega (arith, i.long) in
      carried c x e r (told_spelt (restart_for list Lost) (one_spelt k Lost))
      (emptied_change ms c t _ (model s) i (record { cells = refl; long = simp length-set; periods = refl; heard = i.heard }) x list
      (λ j ss. refl) (λ j bs. refl) (λ j h. refl)
      (λ j q. rw (one_listed t.cells k j i.checked.apart l q) (set_rows t.rows k j there))
      (λ j q z.
      let f : eqb j k ≡ false = sym (one_listed t.cells k j i.checked.apart l q) ∙ not_spoiled c x (identities t.cells j) refl z in
      set_rows t.rows k j there ∙ rw f refl)
      (i.heard announced))
      r.site.meaning.count
