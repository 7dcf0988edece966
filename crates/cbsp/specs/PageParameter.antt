-- The page parameter.
use Rattle.std.specs.Prelude.{◌≡◌, ℕ, ◌+◌, ◌*◌, ◌/◌, ◌%◌, ◌<◌}

-- two numbers of four bits in one octet
abbrev pub packed : ℕ → ℕ → ℕ
packed upper lower = upper % 16 * 16 + lower % 16

-- such an octet read back: its upper four bits and its lower
pub record Parts (upper lower octet : ℕ) : Type 0 where
  pub above : upper < 16 → octet / 16 ≡ upper
  pub below : lower < 16 → octet % 16 ≡ lower

-- the page's number in the upper four bits, the number of pages in the lower
abbrev pub page_parameter : ℕ → ℕ → ℕ
page_parameter number total = packed number total

-- a page parameter for some pages
pub record PageExamples : Type 0 where
  pub single : page_parameter 1 1 ≡ 0x11
  pub second : page_parameter 2 3 ≡ 0x23
  pub last : page_parameter 15 15 ≡ 0xff
