-- What comes of the entries of a Cell List: entries in list order, the cells of an entry in the order of their numbers, each cell at its
-- first naming only.
use Rattle.std.specs.Prelude.{ℕ, ◌+◌, ◌<◌, Bool, true, false, cond, List, [], ◌∷◌, ◌++◌, map, length, replicate, fold, ◌≢◌, slice_set}
use Rattle.std.specs.List.{AllByRecursion}
use Rattle.cells.specs.declared.cell.Cell.{Cell}
use Rattle.lists.specs.declared.cell.CellIdentity.{CellIdentity}
use Rattle.lists.specs.declared.cell.CellIdentity.TheVariants as identity
use Rattle.lists.specs.Entries.{Entry}
use Rattle.lists.specs.CellLists.{CellsV}
use Rattle.lists.specs.CellLists.CellsV.{all, named}
use Rattle.naming.specs.declared.naming.Naming.{Naming}
use Rattle.naming.specs.declared.naming.Naming.TheVariants as naming
use Rattle.naming.specs.Marks.{clear_marks, is_clear}
use Rattle.naming.specs.Names.{names}

-- the marks, and what came of the entries so far
pub record Stage : Type 0 where
  pub marks : List ℕ
  pub out : List Naming

abbrev pub stage : List ℕ → List Naming → Stage
stage ms out = record { marks = ms; out = out }

-- as many namings there are at most once every cell is named
abbrev pub at_most : Stage → ℕ
at_most s = length s.out + clear_marks s.marks

-- a cell is named
abbrev pub noted : Stage → ℕ → Stage
noted s k =
    record {
      marks = cond (is_clear s.marks k) (slice_set s.marks k 1) s.marks;
      out = cond (is_clear s.marks k) (s.out ++ naming.Cell k ∷ []) s.out;
    }

abbrev pub is_some : List ℕ → Bool
is_some [] = false
is_some (k ∷ ks) = true

-- an entry: its cells are named, or it names none and fails as it was given
abbrev pub entered : List Cell → Stage → CellIdentity → Stage
entered cs s e =
    cond (is_some (names cs e)) (fold noted s (names cs e)) (record { marks = s.marks; out = s.out ++ naming.NoCell e ∷ [] })

-- what comes of a list of entries, where no cell was named before
abbrev pub namings : List Cell → List CellIdentity → List Naming
namings cs es = (fold (entered cs) (stage (replicate 64 0) []) es).out

-- whom the entries of a list mean
abbrev pub identities_of : List Entry → List CellIdentity
identities_of es = map (λ e. e.cell) es

abbrev pub named_by : CellsV → List CellIdentity
named_by all = identity.All ∷ []
named_by (named es) = identities_of es

-- a cell that is there
abbrev pub IsThere : ℕ → Naming → Type 0
IsThere n (naming.Cell k) = k < n
IsThere n (naming.NoCell e) = Unit {0}

-- the cells among what came of a list
abbrev pub cells_in : List Naming → List ℕ
cells_in [] = []
cells_in (naming.Cell k ∷ ns) = k ∷ cells_in ns
cells_in (naming.NoCell e ∷ ns) = cells_in ns

-- no number stands twice
abbrev pub Once : List ℕ → Type 0
Once [] = Unit {0}
Once (k ∷ ks) = AllByRecursion (λ j. j ≢ k) ks × Once ks

-- whatever the cells and the entries: what comes of a list are cells that are there, each once
abbrev pub Sound : Type 0
Sound = (cs : List Cell) (es : List CellIdentity) → AllByRecursion (IsThere (length cs)) (namings cs es) × Once (cells_in (namings cs es))
