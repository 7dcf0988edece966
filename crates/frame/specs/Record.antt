-- What a broadcast writes into the memory of a frame site, and where.
use Rattle.std.specs.Prelude.{ℕ, ◌+◌, List, [], ◌∷◌, ◌++◌, take}
use Rattle.cbsp.specs.declared.channel.Channel.{Channel}
use Rattle.cbsp.specs.Channels.{channel_code}
use Rattle.site.specs.declared.message.Page.{Page}
use Rattle.site.specs.Messages.{Aired}
use Rattle.site.specs.Pages.{pages_on_air, page_octets}

-- the octets of pages, numbered from n on
unfoldable pub pages_from : Aired → ℕ → List Page → List ℕ
pages_from m n [] = []
pages_from m n (p ∷ ps) = page_octets m n p ++ pages_from m (n + 1) ps

-- the octets of the pages that go on the air
abbrev pub aired_octets : Aired → List ℕ
aired_octets m = pages_from m 1 (take (pages_on_air m) m.pages)

-- the octets of one broadcast: the cell, the channel, and the pages
abbrev pub record_octets : ℕ → Channel → Aired → List ℕ
record_octets cell channel m = cell ∷ channel_code channel ∷ aired_octets m
