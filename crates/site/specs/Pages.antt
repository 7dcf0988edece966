-- The layout of a page on the air.
use Rattle.std.specs.Prelude.{ℕ, ◌/◌, ◌%◌, min, List, ◌∷◌, length}
use Rattle.cbsp.specs.PageParameter.{page_parameter}
use Rattle.site.specs.declared.message.Page.{Page}
use Rattle.site.specs.Messages.{Aired}

-- the two octets of a number of sixteen bits
abbrev pub high_octet : ℕ → ℕ
high_octet x = x / 256

abbrev pub low_octet : ℕ → ℕ
low_octet x = x % 256

-- the pages of a message that go on the air, at most fifteen
abbrev pub pages_on_air : Aired → ℕ
pages_on_air m = min (length m.pages) 15

-- the 88 octets of a page: what it repeats of its message, its page parameter, its content
abbrev pub page_octets : Aired → ℕ → Page → List ℕ
page_octets m number p =
    high_octet m.serial ∷ low_octet m.serial ∷ high_octet m.identifier ∷ low_octet m.identifier ∷ m.coding
    ∷ page_parameter number (pages_on_air m) ∷ p.content
