-- Which cells an entry of a Cell List names, by their numbers.
use Rattle.std.specs.Prelude.{ℕ, ◌+◌, Bool, true, false, cond, ◌&&◌, List, [], ◌∷◌, ◌==◌}
use Rattle.cells.specs.declared.cell.Cell.{Cell}
use Rattle.lists.specs.declared.cell.CellIdentity.{CellIdentity}
use Rattle.lists.specs.declared.cell.CellIdentity.TheVariants.{LacCi, Ci, Lac, All}

-- a cell that an entry may mean
abbrev pub is_found : CellIdentity → Cell → Bool
is_found (LacCi lac ci) c = c.identity.lac == lac && c.identity.ci == ci
is_found (Ci ci) c = c.identity.ci == ci
is_found (Lac lac) c = c.identity.lac == lac
is_found All c = true

-- an entry with a CI names the first cell that it may mean, any other entry all of them; no two cells of a checked list have both LAC and
-- CI in common
abbrev pub names_only_first : CellIdentity → Bool
names_only_first (LacCi lac ci) = true
names_only_first (Ci ci) = true
names_only_first (Lac lac) = false
names_only_first All = false

-- the cells that an entry names, in the order of their numbers; the first of the list has number n
abbrev pub names_from : CellIdentity → ℕ → List Cell → List ℕ
names_from e n [] = []
names_from e n (c ∷ cs) = cond (is_found e c) (n ∷ cond (names_only_first e) [] (names_from e (n + 1) cs)) (names_from e (n + 1) cs)

abbrev pub names : List Cell → CellIdentity → List ℕ
names cs e = names_from e 0 cs
