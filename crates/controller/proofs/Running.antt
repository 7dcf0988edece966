-- Runs grow call by call, and run on from one another.
use Rattle.std.proofs.Common.{◌≡◌, ℕ, ◌+◌, ◌<◌, List, [], ◌∷◌, ◌++◌, map, reverse, length, drop, take, get_or, sym, refl, ap, ◌∙◌, subst, add-one, arith, Option}
use Rattle.std.proofs.Math.Seq.{take-suc}
use Rattle.std.proofs.lemmas.List.{map-append, reverse-append, take-append-drop}
use Rattle.cbsp.specs.Octets.{put}
use Rattle.elements.specs.declared.faults.Fault.{Fault}
use Rattle.site.specs.Model.{Model}
use Rattle.site.specs.Events.{Event}
use Rattle.law.specs.Calls.{Call}
use Rattle.law.specs.Steps.{Moment, World}
use Rattle.law.specs.Runs.{Run}
use Rattle.law.proofs.Runs.{law}
use Rattle.outcomes.proofs.Telling.{outcomes_tell}
use Rattle.store.proofs.Answered.{fits}
use Rattle.controller.specs.declared.world.Call.{Call as Made}
use Rattle.controller.specs.declared.world.Call.TheVariants.{Open}
use Rattle.controller.specs.declared.world.Report.{Report}
use Rattle.controller.specs.declared.world.Report.TheVariants.{Done, NoLink, Refused}
use Rattle.controller.specs.Moments.{SpaceKept, Stepped, answer_in, fault_of, marks_by, meant, moment, report_by, report_of, sent_len}
use Rattle.controller.specs.Runs.{Lent, Ran, Watched, marks_after, space_after}

-- what was sent stands at the start of the space, and what was behind it still does
stands_over : (n : ℕ) (was is : List ℕ) → n ≡ length (take n is) → drop n is ≡ drop n was → is ≡ put (take n is) 0 was
stands_over n was is e d =
    let z : 0 + length (take n is) ≡ n = omega (arith, e) in
    sym (take-append-drop n is) ∙ ap (λ os. take n is ++ os) (d ∙ ap (λ i. drop i was) (sym z))

-- a report tells how much was sent
sent_size : (report : Report) (f : Option Fault) (space : List ℕ) → report ≡ report_by (answer_in report) (length (take (sent_len report) space)) f
    → sent_len report ≡ length (take (sent_len report) space)
sent_size (Done a) f space e = ap sent_len e
sent_size (Refused r) f space e = refl
sent_size NoLink f space e = refl

module _ {S : Type 0} (model : S → Model) (steps : S → Event → S → Type 0) where
  run_on : (f w v : World S) (ms os : List Moment) → Run model steps f os w → Run model steps w ms v → Run model steps f (ms ++ os) v
  run_on f w v [] os r e = subst (λ (z : World S). Run model steps f os z) (sym e) r
  run_on f w v (m ∷ ms) os r s = (s.0, run_on f w s.0 ms os r s.1, s.2)

  module _ {W : Type 0} (tells : W → Report → List ℕ → W → Type 0) where
    ran : (calls : List Call) (w v : World S) (l k : Lent) (u x : W) (ms : List Moment) → map (λ m. m.call) ms ≡ reverse calls → Run model steps w ms v → Watched tells u ms x
        → k.marks ≡ marks_after ms l.marks → k.space ≡ space_after ms l.space → Ran model steps tells calls w v l k u x
    ran calls w v l k u x ms made r told marks space =
        record {
          moments = ms;
          made = made;
          run = r;
          watched = told;
          marks = marks;
          space = space;
          lawful = λ f os fresh s. let t = run_on f w v ms os s r in (t, law model steps outcomes_tell fits f v (ms ++ os) fresh t);
        }

    pub ran_none : (w : World S) (l : Lent) (u : W) → Ran model steps tells [] w w l l u u
    ran_none w l u = ran [] w w l l u u [] refl refl refl refl refl

    pub ran_more :
        (calls : List Call) (c : Call) (w v v' : World S) (l k j : Lent) (u x x' : W) (report : Report) → Ran model steps tells calls w v l k u x
        → Stepped model steps c v v' report j.space → SpaceKept report k.space j.space → j.marks ≡ marks_by report c k.marks
        → tells x report (take (sent_len report) j.space) x' → Ran model steps tells (calls ++ c ∷ []) w v' l j u x'
    ran_more calls c w v v' l k j u x x' report r s kept cleared told =
        let m : Moment = moment model steps c v v' report j.space in
        let here : tells x (report_of m) m.sent x' = subst (λ (z : Report). tells x z m.sent x') s.told told in
        let marks : j.marks ≡ marks_by (report_of m) c (marks_after r.moments l.marks) =
        cleared ∙ ap (λ ms. marks_by report c ms) r.marks ∙ ap (λ z. marks_by z c (marks_after r.moments l.marks)) s.told in
        let space : j.space ≡ put m.sent 0 (space_after r.moments l.space) =
        stands_over (sent_len report) k.space j.space (sent_size report (fault_of c) j.space s.told) kept ∙ ap (λ os. put m.sent 0 os) r.space in
        ran (calls ++ c ∷ []) w v' l j u x' (m ∷ r.moments) (ap (λ (zs : List Call). c ∷ zs) r.made ∙ sym (reverse-append calls (c ∷ []))) (v, r.run, s.step) (x, r.watched, here) marks space

    -- after a call more of a slice, made with the space and marks that the host lends
    pub ran_next :
        (m o m' o' i n : ℕ) (calls : List Made) (w v v' : World S) (l k j : Lent) (u x x' : W) (report : Report) → m' ≡ m → o' ≡ o → i < length calls
        → Ran model steps tells (map (meant m o) (take i calls)) w v l k u x → Stepped model steps (meant m' o' (get_or calls i Open)) v v' report j.space
        → SpaceKept report k.space j.space → j.marks ≡ marks_by report (meant m' o' (get_or calls i Open)) k.marks
        → n ≡ sent_len report → tells x report (take n j.space) x' → Ran model steps tells (map (meant m o) (take (i + 1) calls)) w v' l j u x'
    ran_next m o m' o' i n calls w v v' l k j u x x' report em eo lt r s kept cleared en told =
        let s' : Stepped model steps (meant m o (get_or calls i Open)) v v' report j.space = rw (← em, ← eo) s in
        let c' : j.marks ≡ marks_by report (meant m o (get_or calls i Open)) k.marks = rw (← em, ← eo) cleared in
        let t' : tells x report (take (sent_len report) j.space) x' = rw (← en) told in
        rw (add-one, take-suc calls i Open, map-append) (ran_more (map (meant m o) (take i calls)) (meant m o (get_or calls i Open)) w v v' l k j u x x' report r s' kept c' t')
