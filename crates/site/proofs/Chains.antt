-- Chains of calls on a site.
use Rattle.std.proofs.Common.{List, [], ◌∷◌, ◌++◌, refl, subst}
use Rattle.site.specs.Events.{Event, Chain}

module _ {S : Type 0} (go : S → Event → S → Type 0) where
  pub chain_none : (s : S) → Chain go s [] s
  unfolding Chain
  chain_none s = refl

  -- one chain behind another
  pub chain_join : (s u t : S) (ds es : List Event) → Chain go s ds u → Chain go u es t → Chain go s (ds ++ es) t
  unfolding Chain
  chain_join s u t [] es c g = subst (λ (x : S). Chain go x es t) c g
  chain_join s u t (d ∷ ds) es c g = (c.0, c.1, chain_join c.0 u t ds es c.2 g)

  -- one call more at the end
  pub chain_more : (s u t : S) (es : List Event) (e : Event) → Chain go s es u → go u e t → Chain go s (es ++ e ∷ []) t
  unfolding Chain
  chain_more s u t es e c g = chain_join s u t es (e ∷ []) c (t, g, refl)
