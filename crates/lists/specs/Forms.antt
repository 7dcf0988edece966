-- The discriminators of entries.
use Rattle.std.specs.Prelude.{ℕ, cond, Some, None, Option, ◌==◌}
use Rattle.lists.specs.declared.form.Form.{Form}
use Rattle.lists.specs.declared.form.Form.TheVariants.{LacCi, Ci, Lac, All}

abbrev pub form_code : Form → ℕ
form_code LacCi = 1
form_code Ci = 2
form_code Lac = 5
form_code All = 6

abbrev pub form_from : ℕ → Option Form
form_from o =
    cond (o == 1) (Some LacCi) (
    cond (o == 2) (Some Ci) (
    cond (o == 5) (Some Lac) (
    cond (o == 6) (Some All) None)))

-- the number of a discriminator, 0 where there is none
abbrev pub form_number : Option Form → ℕ
form_number None = 0
form_number (Some f) = form_code f
