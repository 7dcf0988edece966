-- A chain of calls raises each count by the broadcasts done there.
use Rattle.std.proofs.Common.{◌≡◌, ℕ, ◌+◌, Bool, true, false, cond, ◌&&◌, ◌==◌, List, [], ◌∷◌, sym, refl, ap, ◌∙◌, add-zero, arith}
use Rattle.std.proofs.lemmas.Bool.Decides.{nat_tests}
use Rattle.cbsp.specs.declared.channel.Channel.{Channel}
use Rattle.cbsp.specs.declared.channel.Channel.TheVariants.{Basic, Extended}
use Rattle.cbsp.specs.Channels.{channel_code}
use Rattle.site.specs.Model.{Model, Offered}
use Rattle.site.specs.Events.{Event, Goes, Chain}
use Rattle.site.specs.Events.Event.{switched, started, offered}
use Rattle.site.specs.Counting.{done_at}

-- channels of one code are the same
code_same : (d h : Channel) → channel_code d ≡ channel_code h → d ≡ h
code_same Basic Basic e = refl
code_same Basic Extended e = absurd (omega arith)
code_same Extended Basic e = absurd (omega arith)
code_same Extended Extended e = refl

-- one offer
one : (m n : Model) (j k : ℕ) (d h : Channel) (r : Bool) → Offered j d r m n → n.count k h ≡ m.count k h + cond (r && (j == k && channel_code d == channel_code h)) 1 0
one m n j k d h false o = let kept = o.kept refl in grind (arith, kept)
one m n j k d h true o = let done = o.done refl in grind (arith, nat_tests, done.count, done.other, code_same)

module _ {S : Type 0} (model : S → Model) (steps : S → Event → S → Type 0) where
  pub counted : (s t : S) (es : List Event) (k : ℕ) (h : Channel) → Chain (Goes model steps) s es t → (model t).count k h ≡ (model s).count k h + done_at k h es
  unfolding Chain done_at
  counted s t [] k h c = ap (λ (x : S). (model x).count k h) c ∙ sym (add-zero ((model s).count k h))
  counted s t (switched j b ∷ es) k h c = let later = counted c.0 t es k h c.2 in grind (arith, later, c.1.meaning.count)
  counted s t (started ∷ es) k h c = let later = counted c.0 t es k h c.2 in grind (arith, later, c.1.meaning.count)
  counted s t (offered j d m r ∷ es) k h c =
      let later = counted c.0 t es k h c.2 in
      let now = one (model s) (model c.0) j k d h r c.1.meaning in
      omega (arith, later, now)
