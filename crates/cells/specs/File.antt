-- The cell file: octet n, octet w, n identities of w octets each, n capabilities of one octet each.
use Rattle.std.specs.Prelude.{◌≡◌, ℕ, ◌+◌, ◌*◌, ◌<◌, Bool, false, cond, not, ◌&&◌, List, [], ◌∷◌, map, length, is_some, Ok, Err, Result, ◌==◌, nat_lt, slice_index, slice_index_or}
use Rattle.std.specs.List.{list_any, range_with_len}
use Rattle.std.specs.Option.{unwrap_or}
use Rattle.cbsp.specs.declared.refusal.Refusal.{Refusal}
use Rattle.cbsp.specs.declared.refusal.Refusal.TheVariants.{FileLength, FileHeading, IdentityTwice, UnknownCapability}
use Rattle.cbsp.specs.Octets.{two_at}
use Rattle.cells.specs.declared.cell.Identity.{Identity}
use Rattle.cells.specs.declared.cell.Capability.TheVariants.{NoChannel}
use Rattle.cells.specs.declared.cell.Cell.{Cell}
use Rattle.cells.specs.Capabilities.{capability_in}

-- a number below n passes the test
abbrev pub any_below : (ℕ → Bool) → ℕ → Bool
any_below test n = list_any test (range_with_len 0 n)

-- how many cells a file says that it lists
abbrev pub cell_count : List ℕ → ℕ
cell_count os = slice_index os 0

-- the identity of cell k: its location area code, then its cell identity
abbrev pub identity_at : List ℕ → ℕ → Identity
identity_at os k = record { lac = two_at os (2 + 4 * k); ci = two_at os (4 + 4 * k) }

-- the octet with the capability of cell k
abbrev pub capability_octet : List ℕ → ℕ → ℕ
capability_octet os k = slice_index os (2 + 4 * cell_count os + k)

-- cell k of a file; the value for an unknown octet is never used, since such a file is refused
abbrev pub cell_at : List ℕ → ℕ → Cell
cell_at os k = record { identity = identity_at os k; capability = unwrap_or (capability_in (capability_octet os k)) NoChannel }

-- the cells that a file lists
abbrev pub cells_in : List ℕ → List Cell
cells_in os = map (cell_at os) (range_with_len 0 (cell_count os))

abbrev pub same_identity : Identity → Identity → Bool
same_identity a b = a.lac == b.lac && a.ci == b.ci

-- one of the first k identities is x
abbrev pub among_first : (ℕ → Identity) → Identity → ℕ → Bool
among_first ids x k = any_below (λ i. same_identity (ids i) x) k

-- the identity of cell k is that of an earlier cell
abbrev pub stands_before : (ℕ → Identity) → ℕ → Bool
stands_before ids k = among_first ids (ids k) k

-- two of the first n identities are the same
abbrev pub repeated : (ℕ → Identity) → ℕ → Bool
repeated ids n = any_below (stands_before ids) n

-- the capability octet of cell k is unknown
abbrev pub unknown_at : List ℕ → ℕ → Bool
unknown_at os k = not (is_some (capability_in (capability_octet os k)))

-- one of the first n capability octets is unknown
abbrev pub any_unknown : List ℕ → ℕ → Bool
any_unknown os n = any_below (unknown_at os) n

-- the file's heading: 1 to 64 cells, identities of four octets
abbrev pub heading_fits : List ℕ → Bool
heading_fits os = nat_lt 0 (cell_count os) && nat_lt (cell_count os) 65 && slice_index os 1 == 4

-- the number of cells, once the heading stands and the file is as long as it says
abbrev pub headed : List ℕ → Result ℕ Refusal
headed os =
    cond (nat_lt (length os) 2) (Err FileLength)
    (cond (not (heading_fits os)) (Err FileHeading)
    (cond (length os == 2 + 5 * cell_count os) (Ok (cell_count os)) (Err FileLength)))

-- what holds of the octets of a file whose heading stands, with n cells
pub record Headed (os : List ℕ) (n : ℕ) : Type 0 where
  pub count : n ≡ cell_count os
  pub some : 0 < n
  pub few : n < 65
  pub long : length os ≡ 2 + 5 * n

-- what comes next once a check is passed
abbrev pub passed : Result ℕ Refusal → (ℕ → Result ℕ Refusal) → Result ℕ Refusal
passed (Ok n) next = next n
passed (Err e) next = Err e

-- the number of cells of a file that is taken, or why it is refused
abbrev pub checked_file : List ℕ → Result ℕ Refusal
checked_file os =
    passed (headed os)
    (λ n. cond (repeated (identity_at os) n) (Err IdentityTwice) (cond (any_unknown os n) (Err UnknownCapability) (Ok n)))

-- the identities of a list of cells, by number; past the end, zeros
abbrev pub identities : List Cell → ℕ → Identity
identities cs k = (slice_index_or cs k (record { identity = record { lac = 0; ci = 0 }; capability = NoChannel })).identity

-- no identity stands twice in a list of cells
abbrev pub Distinct : List Cell → Type 0
Distinct cs = repeated (identities cs) (length cs) ≡ false

-- the same by numbers: two cells with the same identity are one cell
abbrev pub Apart : List Cell → Type 0
Apart cs = (i j : ℕ) → i < length cs → j < length cs → identities cs i ≡ identities cs j → i ≡ j

-- the file of the list that a controller starts with
abbrev pub built_in : List ℕ
built_in = 2 ∷ 4 ∷ 1 ∷ 1 ∷ 0 ∷ 1 ∷ 1 ∷ 1 ∷ 0 ∷ 2 ∷ 1 ∷ 3 ∷ []
