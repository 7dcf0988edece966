-- A CBS message by its content.
use Rattle.std.specs.Prelude.{ℕ, List}
use Rattle.site.specs.declared.message.Page.{Page}
use Rattle.site.specs.declared.message.CbsMessage.{CbsMessage}

-- what is handed to a site: serial number, message identifier, data coding scheme, and the contents of the pages
pub record Aired : Type 0 where
  pub serial : ℕ
  pub identifier : ℕ
  pub coding : ℕ
  pub pages : List Page

abbrev pub aired : CbsMessage → Aired
aired m = record { serial = m.serial; identifier = m.identifier; coding = m.coding; pages = m.pages.now }
