-- The lists of a reply, from what came of a request.
use Rattle.std.specs.Prelude.{ℕ, cond, List, [], ◌∷◌, Some, None, Option, nat_lt}
use Rattle.cells.specs.declared.cell.Cell.{Cell}
use Rattle.cells.specs.File.{identities}
use Rattle.elements.specs.declared.cause.Cause.{Cause}
use Rattle.lists.specs.declared.cell.CellIdentity.{CellIdentity}
use Rattle.lists.specs.declared.cell.CellIdentity.TheVariants.{LacCi}
use Rattle.lists.specs.declared.kinds.CellEntry.{CellEntry}
use Rattle.lists.specs.declared.kinds.CompletedEntry.{CompletedEntry}
use Rattle.lists.specs.declared.kinds.FailedEntry.{FailedEntry}
use Rattle.lists.specs.declared.kinds.Info.{Info}
use Rattle.lists.specs.declared.kinds.Info.TheVariants.{Exact, Overflow}
use Rattle.naming.specs.declared.naming.Naming.{Naming}
use Rattle.naming.specs.declared.naming.Naming.TheVariants as naming
use Rattle.table.specs.declared.outcome.Outcome.{Outcome}

-- a cell is named by LAC and CI
abbrev pub identity_of : Cell → CellIdentity
identity_of c = LacCi c.identity.lac c.identity.ci

-- replies name cells so
abbrev pub identity_at : List Cell → ℕ → CellIdentity
identity_at cs k = LacCi (identities cs k).lac (identities cs k).ci

-- an entry that names no cell stands in the reply as it was given
abbrev pub whom_in : List Cell → Naming → CellIdentity
whom_in cs (naming.Cell k) = identity_at cs k
whom_in cs (naming.NoCell e) = e

-- a count above 65,535 reads 65,535, with overflow
abbrev pub count_field : ℕ → ℕ
count_field n = cond (nat_lt 65535 n) 65535 n

abbrev pub info_field : ℕ → Info
info_field n = cond (nat_lt 65535 n) Overflow Exact

abbrev pub begun_by : CellIdentity → Option Cause → Option CellEntry
begun_by e None = Some (record { cell = e })
begun_by e (Some c) = None

abbrev pub begun_entry : List Cell → Outcome → Option CellEntry
begun_entry cs o = begun_by (whom_in cs o.whom) o.cause

abbrev pub completed_by : CellIdentity → Option ℕ → Option CompletedEntry
completed_by e None = None
completed_by e (Some n) = Some (record { cell = e; count = count_field n; info = info_field n })

abbrev pub completed_entry : List Cell → Outcome → Option CompletedEntry
completed_entry cs o = completed_by (whom_in cs o.whom) o.ended

abbrev pub failed_by : CellIdentity → Option Cause → Option FailedEntry
failed_by e None = None
failed_by e (Some c) = Some (record { cell = e; cause = c })

abbrev pub failed_entry : List Cell → Outcome → Option FailedEntry
failed_entry cs o = failed_by (whom_in cs o.whom) o.cause

-- in front, if it is there
abbrev pub before : {X : Type 0} → Option X → List X → List X
before None xs = xs
before (Some x) xs = x ∷ xs

-- the entries that outcomes have, in their order
abbrev pub picked : {X : Type 0} → (Outcome → Option X) → List Outcome → List X
picked entry [] = []
picked entry (o ∷ os) = before (entry o) (picked entry os)
