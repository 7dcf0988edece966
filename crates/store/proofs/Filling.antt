-- A content in its slot.
use Rattle.std.proofs.Common.{◌≡◌, ℕ, List, map, set, Some, Option, refl}
use Rattle.std.proofs.lemmas.List.{map-set}
use Rattle.rows.specs.declared.content.Content.{Content}
use Rattle.rows.specs.Texts.{Text, text_of}
use Rattle.answering.specs.Handled.{with_text}

pub text_set : (cs : List Content) (o : Option ℕ) (i : ℕ) (c : Content) (t : Text) → o ≡ Some i → text_of c ≡ t → map text_of (set cs i c) ≡ with_text o t (map text_of cs)
text_set cs o i c t e q = rw (e, map-set text_of cs i c, q) refl
