-- Links in their places.
use Rattle.std.proofs.Common.{◌≡◌, ℕ, zero, suc, true, List, [], ◌∷◌, map, None, Option, get_or, set, refl, sym, ap, ◌∙◌}
use Rattle.std.proofs.lemmas.List.{map-set}
use Rattle.law.specs.Steps.{Link, is_held, is_waiting, link_at}
use Rattle.law.specs.Steps.Link.{waiting, open_link, gone}
use Rattle.controller.specs.HeldLinks.{kind_of, kind_of_link}
use Rattle.controller.specs.declared.links.Link.{Link as Held}
use Rattle.controller.specs.declared.links.Link.TheVariants.{Waiting, Open}

pub kinds_set : (ps : List (Option Held)) (k : ℕ) (p : Option Held) → map kind_of (set ps k p) ≡ set (map kind_of ps) k (kind_of p)
kinds_set ps k p = map-set kind_of ps k p

pub kind_at : (ps : List (Option Held)) (k : ℕ) → link_at (map kind_of ps) k ≡ kind_of (get_or ps k None)
kind_at [] k = refl
kind_at (p ∷ ps) zero = refl
kind_at (p ∷ ps) (suc k) = kind_at ps k

-- what was taken from a place and comes back
pub put_back : (ls : List Link) (k : ℕ) (x y : Link) → link_at ls k ≡ y → set (set ls k x) k y ≡ ls
put_back [] k x y e = refl
put_back (l ∷ ls) zero x y e = ap (λ (z : Link). z ∷ ls) (sym e)
put_back (l ∷ ls) (suc k) x y e = ap (λ (zs : List Link). l ∷ zs) (put_back ls k x y e)

-- what was taken is replaced
pub put_over : (ls : List Link) (k : ℕ) (x y : Link) → set (set ls k x) k y ≡ set ls k y
put_over [] k x y = refl
put_over (l ∷ ls) zero x y = refl
put_over (l ∷ ls) (suc k) x y = ap (λ (zs : List Link). l ∷ zs) (put_over ls k x y)

-- no place has a link
pub none_held : (ps : List (Option Held)) → ((k : ℕ) → get_or ps k None ≡ None) → (k : ℕ) → link_at (map kind_of ps) k ≡ gone
none_held ps h k = kind_at ps k ∙ ap kind_of (h k)

-- a link that was taken is put back as another, or as it was
pub put_as : (ls ms ns : List Link) (n j : ℕ) (k : Link) → ms ≡ set ls n gone → ns ≡ set ms j k → j ≡ n → ns ≡ set ls n k
put_as ls ms ns n j k e f i = rw (f, e, i) (put_over ls n gone k)

pub put_again : (ls ms ns : List Link) (n j : ℕ) (k : Link) → ms ≡ set ls n gone → ns ≡ set ms j k → j ≡ n → link_at ls n ≡ k → ns ≡ ls
put_again ls ms ns n j k e f i h = rw (f, e, i) (put_back ls n gone k h)

pub waits : (k : Link) → true ≡ is_waiting k → k ≡ waiting
waits waiting e = refl
waits open_link e = cc
waits gone e = cc

pub is_there : (l : Held) (k : Link) → kind_of_link l ≡ k → is_held k ≡ true
is_there (Waiting l) k e = rw (← e) refl
is_there (Open l) k e = rw (← e) refl
