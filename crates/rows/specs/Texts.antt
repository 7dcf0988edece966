-- What a content says.
use Rattle.std.specs.Prelude.{ℕ, List, [], slice_index_or}
use Rattle.site.specs.declared.message.Page.{Page}
use Rattle.site.specs.Messages.{Aired}
use Rattle.rows.specs.declared.row.Row.{Row}
use Rattle.rows.specs.declared.content.Content.{Content}

-- a data coding scheme and pages
pub record Text : Type 0 where
  pub coding : ℕ
  pub pages : List Page

abbrev pub text_of : Content → Text
text_of c = record { coding = c.coding; pages = c.pages }

-- what a content says before it is first filled
abbrev pub no_text : Text
no_text = record { coding = 0; pages = [] }

-- what goes out for a message, by the texts of the slots
abbrev pub aired_for : List Text → Row → Aired
aired_for texts r =
    record {
      serial = r.serial;
      identifier = r.identifier;
      coding = (slice_index_or texts r.slot no_text).coding;
      pages = (slice_index_or texts r.slot no_text).pages;
    }
