-- The memory in which a list is walked, and where the walk stands.
use Rattle.std.specs.Prelude.{◌≡◌, ℕ, ◌+◌, Bool, false, cond, ◌&&◌, List, [], ◌∷◌, length, nat_lt}
use Rattle.cells.specs.declared.cell.Cell.{Cell}
use Rattle.cells.specs.File.{identities, same_identity}
use Rattle.lists.specs.declared.cell.CellIdentity.{CellIdentity}
use Rattle.lists.specs.declared.cell.CellIdentity.TheVariants.{LacCi, Ci, Lac, All}
use Rattle.naming.specs.declared.walk.Walk.{Walk}
use Rattle.naming.specs.Names.{names_only_first}
use Rattle.naming.specs.Namings.{Stage, stage}

-- what the lent memory says
abbrev pub stage_of : Walk → Stage
stage_of w = stage w.marks.now w.out.now

-- the memory is the same that was lent
abbrev pub SameLoans : Walk → Walk → Type 0
SameLoans v w = (w.marks.ghost_name ≡ v.marks.ghost_name) × (w.out.ghost_name ≡ v.out.ghost_name)

-- cell k has the LAC and the CI that the entry gives
abbrev pub is_at : List Cell → ℕ → CellIdentity → Bool
is_at cs k (LacCi lac ci) = nat_lt k (length cs) && same_identity (identities cs k) (record { lac = lac; ci = ci })
is_at cs k (Ci ci) = false
is_at cs k (Lac lac) = false
is_at cs k All = false

-- the next cell after an entry, where n was the next before: behind the cell that the entry names, if it names just one
abbrev pub behind : CellIdentity → ℕ → List ℕ → ℕ
behind e n [] = n
behind e n (k ∷ ks) = cond (names_only_first e) (k + 1) n
