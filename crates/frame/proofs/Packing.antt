-- The broadcasts of a period lie one behind the other.
use Rattle.std.proofs.Common.{◌≡◌, ℕ, ◌+◌, ◌≤◌, Bool, true, false, cond, ◌&&◌, List, [], ◌∷◌, ◌++◌, length, sym, refl, ap, ◌∙◌, arith}
use Rattle.std.proofs.lemmas.Bool.Decides.{nat_tests}
use Rattle.site.specs.Events.{Event, Chain}
use Rattle.site.specs.Events.Event.{switched, started, offered}
use Rattle.frame.specs.declared.frame_site.FrameSite.{FrameSite}
use Rattle.cbsp.specs.Octets.{put}
use Rattle.cbsp.proofs.Puts.{put_none, put_more}
use Rattle.frame.specs.Record.{record_octets}
use Rattle.frame.specs.Frame.{large, fits}
use Rattle.frame.specs.Frames.{WithinPeriod, frames_of, behind, Written, Ample, Packs}
use Rattle.frame.proofs.Puts.{put_length}

-- no octets
behind_none : (used : ℕ) (memory : List ℕ) → behind used [] memory ≡ memory
behind_none used memory = let e = put_none used memory in grind (arith, e)

-- where the longest broadcast fits, only the size of the memory decides
large_alone : {A : Type 0} (x : Bool) (used : ℕ) (p q : A) → used ≤ 19830 → cond (x && fits used) p q ≡ cond x p q
large_alone x used p q le = grind (arith, nat_tests)

-- octets, and octets behind them
behind_more : (used next : ℕ) (a b memory : List ℕ) → next ≤ 21152 → next ≡ cond (large (length memory)) (used + length a) used → behind next b (behind used a memory) ≡ behind used (a ++ b) memory
behind_more used next a b memory le e =
    let more = put_more used a b memory next in
    let long = put_length used a memory in
    grind (arith, nat_tests, more, long)

-- a call that writes nothing and takes no room
unmoved : (s u t : FrameSite) (es ds : List Event) → u.memory.ghost_name ≡ s.memory.ghost_name → u.used ≡ s.used → u.memory.now ≡ s.memory.now → frames_of ds ≡ frames_of es → Written u es t → Written s ds t
unmoved s u t es ds n e m f w = record { lender = w.lender ∙ n; memory = (let k = w.memory in cc) }

pub packs : Packs
unfolding WithinPeriod frames_of Chain
packs s t [] h p c = record {
  lender = ap (λ (x : FrameSite). x.memory.ghost_name) c;
  memory = ap (λ (x : FrameSite). x.memory.now) c ∙ sym (behind_none s.used s.memory.now);
}
packs s t (switched k b ∷ es) h p c =
    let i = c.1.itself in
    let g : Ample c.0 = omega (arith, i.used, i.left) in
    unmoved s c.0 t es (switched k b ∷ es) i.lender i.used i.memory refl (packs c.0 t es g p c.2)
packs s t (started ∷ es) h p c = absurd p
packs s t (offered k d m false ∷ es) h p c =
    let i = c.1.itself in
    let g : Ample c.0 = omega (arith, i.used, i.left) in
    unmoved s c.0 t es (offered k d m false ∷ es) i.lender i.used i.memory refl (packs c.0 t es g p c.2)
packs s t (offered k d m true ∷ es) h p c =
    let u = c.0 in
    let i = c.1.itself in
    let g : Ample u = omega (arith, i.most, i.left) in
    let w = packs u t es g p c.2 in
    let place : s.used ≤ 19830 = omega (arith, i.left) in
    let memory = s.memory.now in
    let octets = record_octets k d m in
    let next = i.used ∙ large_alone (large (length memory)) s.used (s.used + length octets) s.used place in
    let here = i.memory ∙ large_alone (large (length memory)) s.used (put octets s.used memory) memory place in
    let all = behind_more s.used u.used octets (frames_of es) memory (omega arith) next in
    record { lender = w.lender ∙ i.lender; memory = cc }
