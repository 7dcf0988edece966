-- The cells that a list names are there, and each comes once.
use Rattle.std.proofs.Common.{◌≡◌, ℕ, ◌+◌, ◌<◌, ◌≤◌, Bool, true, false, cond, ltb, ◌⊎◌, List, [], ◌∷◌, ◌++◌, length, set, replicate, fold, sym, refl, ap, ◌∙◌, subst, inl, inr, arith}
use Rattle.std.specs.List.{AllByRecursion}
use Rattle.std.proofs.ByRecursion.{All-push, All-weaker}
use Rattle.std.proofs.lemmas.Bool.{cases_eq, cases_lt, and_right, le-ltb, both_ways}
use Rattle.std.proofs.lemmas.List.{get_or-set_same, get_or-set_other, length-set}
use Rattle.cells.specs.declared.cell.Cell.{Cell}
use Rattle.lists.specs.declared.cell.CellIdentity.{CellIdentity}
use Rattle.naming.specs.declared.naming.Naming.{Naming}
use Rattle.naming.specs.declared.naming.Naming.TheVariants as naming
use Rattle.naming.specs.Marks.{is_clear}
use Rattle.naming.specs.Names.{is_found, names_only_first, names_from, names}
use Rattle.naming.specs.Namings.{Stage, stage, noted, is_some, entered, IsThere, cells_in, Once, Sound}

-- what an entry names is there
pub names_there : (e : CellIdentity) (n m : ℕ) (cs : List Cell) → n + length cs ≡ m → AllByRecursion (λ k. k < m) (names_from e n cs)
names_there e n m [] h = tt
names_there e n m (c ∷ cs) h = go (names_there e (n + 1) m cs (omega arith)) (is_found e c) (names_only_first e)
  where
    go : AllByRecursion (λ k. k < m) (names_from e (n + 1) cs) → (f o : Bool) → AllByRecursion (λ k. k < m) (cond f (n ∷ cond o [] (names_from e (n + 1) cs)) (names_from e (n + 1) cs))
    go more false o = more
    go more true true = ((omega arith), tt)
    go more true false = ((omega arith), more)

-- no cell that came is unmarked
abbrev Marked : List ℕ → List ℕ → Type 0
Marked ms ks = AllByRecursion (λ k. is_clear ms k ≡ false) ks

record Good (m : ℕ) (s : Stage) : Type 0 where
  there : AllByRecursion (IsThere m) s.out
  marked : Marked s.marks (cells_in s.out)
  once : Once (cells_in s.out)

pub cells_push : (ns : List Naming) (k : ℕ) → cells_in (ns ++ naming.Cell k ∷ []) ≡ cells_in ns ++ k ∷ []
cells_push [] k = refl
cells_push (naming.Cell j ∷ ns) k = ap (λ (ks : List ℕ). j ∷ ks) (cells_push ns k)
cells_push (naming.NoCell e ∷ ns) k = cells_push ns k

pub cells_same : (ns : List Naming) (e : CellIdentity) → cells_in (ns ++ naming.NoCell e ∷ []) ≡ cells_in ns
cells_same [] e = refl
cells_same (naming.Cell j ∷ ns) e = ap (λ (ks : List ℕ). j ∷ ks) (cells_same ns e)
cells_same (naming.NoCell f ∷ ns) e = cells_same ns e

-- a number that is not there yet
once_push : (ks : List ℕ) (k : ℕ) → Once ks → AllByRecursion (λ j. k ≡ j → ⊥) ks → Once (ks ++ k ∷ [])
once_push [] k o a = (tt, tt)
once_push (j ∷ ks) k o a = (All-push (λ i. i ≡ j → ⊥) ks k o.0 a.0, once_push ks k o.1 a.1)

now_marked : (ms : List ℕ) (k : ℕ) → is_clear (set ms k 1) k ≡ false
now_marked ms k = go (cases_lt k (length ms))
  where
    go : (k < length ms) ⊎ (length ms ≤ k) → is_clear (set ms k 1) k ≡ false
    go (inl l) = rw (length-set, get_or-set_same ms k 1 0 l) (and_right (ltb k (length ms)) false refl)
    go (inr le) = rw (length-set, le-ltb k (length ms) le)

-- a marked cell stays so
still_marked : (ms : List ℕ) (k j : ℕ) → is_clear ms j ≡ false → is_clear (set ms k 1) j ≡ false
still_marked ms k j e = go (cases_eq j k)
  where
    go : (j ≡ k) ⊎ (j ≡ k → ⊥) → is_clear (set ms k 1) j ≡ false
    go (inl q) = subst (λ (i : ℕ). is_clear (set ms k 1) i ≡ false) (sym q) (now_marked ms k)
    go (inr ne) = rw (length-set, get_or-set_other ms k j 1 0 ne) e

good_noted : (m : ℕ) (s : Stage) (k : ℕ) → k < m → Good m s → Good m (noted s k)
good_noted m s k l g = go (is_clear s.marks k) refl
  where
    new : is_clear s.marks k ≡ true → (j : ℕ) → is_clear s.marks j ≡ false → k ≡ j → ⊥
    new t j f q = both_ways (is_clear s.marks k) (ap (is_clear s.marks) q ∙ f) t

    go : (b : Bool) → is_clear s.marks k ≡ b → Good m (stage (cond b (set s.marks k 1) s.marks) (cond b (s.out ++ naming.Cell k ∷ []) s.out))
    go false t = record { there = g.there; marked = g.marked; once = g.once }
    go true t =
        record {
          there = All-push (IsThere m) s.out (naming.Cell k) g.there l;
          marked =
              rw cells_push
              (All-push (λ j. is_clear (set s.marks k 1) j ≡ false) (cells_in s.out) k
              (All-weaker (λ j. is_clear s.marks j ≡ false) (λ j. is_clear (set s.marks k 1) j ≡ false) (still_marked s.marks k) (cells_in s.out) g.marked)
              (now_marked s.marks k));
          once =
              rw cells_push
              (once_push (cells_in s.out) k g.once (All-weaker (λ j. is_clear s.marks j ≡ false) (λ j. k ≡ j → ⊥) (new t) (cells_in s.out) g.marked));
        }

good_names : (m : ℕ) (ks : List ℕ) (s : Stage) → AllByRecursion (λ k. k < m) ks → Good m s → Good m (fold noted s ks)
good_names m [] s a g = g
good_names m (k ∷ ks) s a g = good_names m ks (noted s k) a.1 (good_noted m s k a.0 g)

good_entered : (cs : List Cell) (s : Stage) (e : CellIdentity) → Good (length cs) s → Good (length cs) (entered cs s e)
good_entered cs s e g = go (is_some (names cs e))
  where
    go : (b : Bool) → Good (length cs) (cond b (fold noted s (names cs e)) (stage s.marks (s.out ++ naming.NoCell e ∷ [])))
    go true = good_names (length cs) (names cs e) s (names_there e 0 (length cs) cs (omega arith)) g
    go false =
        record {
          there = All-push (IsThere (length cs)) s.out (naming.NoCell e) g.there tt;
          marked = rw cells_same g.marked;
          once = rw cells_same g.once;
        }

good_all : (cs : List Cell) (es : List CellIdentity) (s : Stage) → Good (length cs) s → Good (length cs) (fold (entered cs) s es)
good_all cs [] s g = g
good_all cs (e ∷ es) s g = good_all cs es (entered cs s e) (good_entered cs s e g)

pub sound : Sound
sound cs es =
    let g = good_all cs es (stage (replicate 64 0) []) (record { there = tt; marked = tt; once = tt }) in
    (g.there, g.once)
