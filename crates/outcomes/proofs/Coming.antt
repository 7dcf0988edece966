-- What comes of a list: cells that are there, entries that name none, how many of each, and something where the list has an entry.
use Rattle.std.proofs.Common.{◌≡◌, ℕ, ◌+◌, ◌<◌, ◌≤◌, Bool, true, false, cond, eqb, ltb, List, [], ◌∷◌, ◌++◌, length, get_or, set, replicate, fold, refl, ap, arith}
use Rattle.std.specs.List.{AllByRecursion}
use Rattle.std.proofs.ByRecursion.{All-push}
use Rattle.std.proofs.lemmas.List.{length_push, length-replicate, get_or-replicate}
use Rattle.std.proofs.lemmas.Bool.{and_parts, ltb-true, lt-ltb, eqb-true}
use Rattle.cells.specs.declared.cell.Cell.{Cell}
use Rattle.lists.specs.declared.cell.CellIdentity.{CellIdentity}
use Rattle.naming.specs.declared.naming.Naming.{Naming}
use Rattle.naming.specs.declared.naming.Naming.TheVariants as naming
use Rattle.naming.specs.Marks.{is_clear, clear_marks}
use Rattle.naming.specs.Names.{names}
use Rattle.naming.specs.Namings.{Stage, stage, noted, is_some, entered, namings, cells_in}
use Rattle.naming.proofs.Clearing.{fewer_at, all_clear}
use Rattle.naming.proofs.Onces.{names_there, cells_push, cells_same}

-- a cell that is there, or an entry that names none
abbrev pub Right : List Cell → Naming → Type 0
Right cs (naming.Cell k) = k < length cs
Right cs (naming.NoCell e) = names cs e ≡ []

-- no cell was named before
abbrev start : Stage
start = stage (replicate 64 0) []

-- from one stage to a later one, n entries on: each new cell took a clear mark, and besides the cells no more came than entries
record Later (cs : List Cell) (n : ℕ) (s t : Stage) : Type 0 where
  right : AllByRecursion (Right cs) s.out → AllByRecursion (Right cs) t.out
  cells : length (cells_in t.out) + clear_marks t.marks ≡ length (cells_in s.out) + clear_marks s.marks
  all : length t.out + clear_marks t.marks ≤ length s.out + clear_marks s.marks + n
  grows : length s.out ≤ length t.out

module _ (cs : List Cell) where
  later_same : (s : Stage) → Later cs 0 s s
  later_same s = record { right = λ a. a; cells = refl; all = omega arith; grows = omega arith }

  later_then : {n m o : ℕ} {s t u : Stage} → Later cs n s t → Later cs m t u → n + m ≤ o → Later cs o s u
  later_then a b l = record { right = λ r. b.right (a.right r); cells = omega arith; all = omega arith; grows = omega arith }

  later_noted : (s : Stage) (k : ℕ) → k < length cs → Later cs 0 s (noted s k)
  later_noted s k l = go (is_clear s.marks k) refl
    where
      go : (b : Bool) → is_clear s.marks k ≡ b → Later cs 0 s (stage (cond b (set s.marks k 1) s.marks) (cond b (s.out ++ naming.Cell k ∷ []) s.out))
      go false e = record { right = λ a. a; cells = refl; all = omega arith; grows = omega arith }
      go true e =
          let p = and_parts (ltb k (length s.marks)) (eqb (get_or s.marks k 0) 0) e in
          let fewer = fewer_at s.marks k (ltb-true k (length s.marks) p.0) (eqb-true (get_or s.marks k 0) 0 p.1) in
          record {
            right = λ a. All-push (Right cs) s.out (naming.Cell k) a l;
            cells = simp (cells_push, length_push) (omega arith);
            all = simp length_push (omega arith);
            grows = simp length_push (omega arith);
          }

  later_names : (ks : List ℕ) (s : Stage) → AllByRecursion (λ k. k < length cs) ks → Later cs 0 s (fold noted s ks)
  later_names [] s a = later_same s
  later_names (k ∷ ks) s a = later_then (later_noted s k a.0) (later_names ks (noted s k) a.1) (omega arith)

  later_entered : (s : Stage) (e : CellIdentity) → Later cs 1 s (entered cs s e)
  later_entered s e = go (names cs e) refl (names_there e 0 (length cs) cs (omega arith))
    where
      go : (ks : List ℕ) → names cs e ≡ ks → AllByRecursion (λ k. k < length cs) ks → Later cs 1 s (cond (is_some ks) (fold noted s ks) (stage s.marks (s.out ++ naming.NoCell e ∷ [])))
      go [] none a =
          record {
            right = λ r. All-push (Right cs) s.out (naming.NoCell e) r none;
            cells = simp cells_same;
            all = simp length_push (omega arith);
            grows = simp length_push (omega arith);
          }
      go (k ∷ ks) some a = later_then (later_names (k ∷ ks) s a) (later_same (fold noted s (k ∷ ks))) (omega arith)

  later_all : (es : List CellIdentity) (s : Stage) → Later cs (length es) s (fold (entered cs) s es)
  later_all [] s = later_same s
  later_all (e ∷ es) s = later_then (later_entered s e) (later_all es (entered cs s e)) (omega arith)

  pub namings_right : (es : List CellIdentity) → AllByRecursion (Right cs) (namings cs es)
  namings_right es = (later_all es start).right tt

  -- no more cells than marks
  pub cells_few : (es : List CellIdentity) → length (cells_in (namings cs es)) ≤ 64
  cells_few es = let l = (later_all es start).cells in omega (arith, all_clear 64)

  -- besides the cells, no more than entries
  pub namings_few : (es : List CellIdentity) → length (namings cs es) ≤ 64 + length es
  namings_few es = let l = (later_all es start).all in omega (arith, all_clear 64)

-- at first no cell is marked
all_new : (n k : ℕ) → k < n → is_clear (replicate n 0) k ≡ true
all_new n k l = rw (length-replicate, get_or-replicate {A = ℕ} n k 0 0 l, lt-ltb k n l)

-- the first entry comes itself, or the first cell that it names does
first_comes : (cs : List Cell) (e : CellIdentity) → length cs ≤ 64 → 0 < length (entered cs start e).out
first_comes cs e few = go (names cs e) (names_there e 0 (length cs) cs (omega arith))
  where
    go : (ks : List ℕ) → AllByRecursion (λ k. k < length cs) ks → 0 < length (cond (is_some ks) (fold noted start ks) (stage (replicate 64 0) ([] ++ naming.NoCell e ∷ []))).out
    go [] a = omega arith
    go (k ∷ ks) a =
        let within : k < 64 = omega (arith, a.0) in
        let one : length (noted start k).out ≡ 1 = ap (λ (b : Bool). length (cond b (naming.Cell k ∷ []) [])) (all_new 64 k within) in
        let grows = (later_names cs ks (noted start k) a.1).grows in
        omega arith

-- something comes of a list with an entry
pub some_comes : (cs : List Cell) (es : List CellIdentity) → length cs ≤ 64 → 0 < length es → 0 < length (namings cs es)
some_comes cs [] few l = absurd (let h : ⊥ = omega arith in h)
some_comes cs (e ∷ es) few l =
    let first = first_comes cs e few in
    let grows = (later_all cs es (entered cs start e)).grows in
    omega arith
