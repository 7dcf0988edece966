-- What came of a request for a cell, or for an entry that names none.
use Rattle.std.specs.Prelude.{ℕ, Some, None, Option}
use Rattle.elements.specs.declared.cause.Cause.{Cause}
use Rattle.elements.specs.declared.cause.Cause.TheVariants.{CellIdentityNotValid, LaiOrLacNotValid}
use Rattle.lists.specs.declared.cell.CellIdentity.{CellIdentity}
use Rattle.lists.specs.declared.cell.CellIdentity.TheVariants.{LacCi, Ci, Lac, All}
use Rattle.naming.specs.declared.naming.Naming.TheVariants as naming
use Rattle.table.specs.declared.outcome.Outcome.{Outcome}

abbrev pub cause_of_no_cell : CellIdentity → Cause
cause_of_no_cell (LacCi lac ci) = CellIdentityNotValid
cause_of_no_cell (Ci ci) = CellIdentityNotValid
cause_of_no_cell (Lac lac) = LaiOrLacNotValid
cause_of_no_cell All = CellIdentityNotValid

abbrev pub no_cell : CellIdentity → Outcome
no_cell e = record { whom = naming.NoCell e; ended = None; cause = Some (cause_of_no_cell e) }

abbrev pub outcome : ℕ → Option ℕ → Option Cause → Outcome
outcome k ended cause = record { whom = naming.Cell k; ended = ended; cause = cause }
