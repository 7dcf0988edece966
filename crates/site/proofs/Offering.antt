-- One offer more.
use Rattle.std.proofs.Common.{◌≡◌, ℕ, ◌+◌, ◌<◌, Bool, cond, List, [], ◌∷◌, ◌++◌, length, get_or, take, refl, ap, arith}
use Rattle.std.proofs.lemmas.List.{length_push, take_more}
use Rattle.site.specs.Events.{Event}
use Rattle.site.proofs.Chains.{chain_none, chain_more}
use Rattle.site.specs.declared.period.Offer.{Offer}
use Rattle.site.specs.Period.{answered, events, done_of, Offers}

events_more : (os : List Offer) (rs : List Bool) (o : Offer) (r : Bool) → length rs ≡ length os → events (os ++ o ∷ []) (rs ++ r ∷ []) ≡ events os rs ++ answered o r ∷ []
unfolding events
events_more [] [] o r e = refl
events_more [] (q ∷ rs) o r e = absurd (omega arith)
events_more (p ∷ os) [] o r e = absurd (omega arith)
events_more (p ∷ os) (q ∷ rs) o r e = ap (λ (es : List Event). answered p q ∷ es) (events_more os rs o r (omega arith))

done_more : (rs : List Bool) (r : Bool) → done_of (rs ++ r ∷ []) ≡ done_of rs + cond r 1 0
unfolding done_of
done_more [] r = omega arith
done_more (q ∷ rs) r = omega (arith, done_more rs r)

module _ {S : Type 0} (go : S → Event → S → Type 0) where
  pub offers_none : (s : S) → Offers go s [] 0 s
  unfolding events done_of
  offers_none s = record { answers = []; each = refl; chain = chain_none go s; done = refl }

  pub offers_more : (s u t : S) (os : List Offer) (i : ℕ) (d : Offer) (n k : ℕ) (r : Bool) → i < length os → Offers go s (take i os) n u → go u (answered (get_or os i d) r) t → k ≡ n + cond r 1 0 → Offers go s (take (i + 1) os) k t
  offers_more s u t os i d n k r lt a g e = rw (take_more os i d lt) (record {
    answers = a.answers ++ r ∷ [];
    each = omega (arith, length_push {X = Bool}, length_push {X = Offer}, a.each);
    chain = rw (events_more (take i os) a.answers (get_or os i d) r a.each) (chain_more go s u t _ _ a.chain g);
    done = omega (arith, a.done, done_more a.answers r);
  })
