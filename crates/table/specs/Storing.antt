-- What a content says once a request is stored in it.
use Rattle.std.specs.Prelude.{ℕ, List, map}
use Rattle.pages.specs.declared.page.Page as wire
use Rattle.rows.specs.Texts.{Text}
use Rattle.site.specs.declared.message.Page.{Page}

-- a page goes on the air with all 82 octets of its content
abbrev pub on_air : wire.Page → Page
on_air p = record { content = p.content }

abbrev pub stored : ℕ → List wire.Page → Text
stored coding ps = record { coding = coding; pages = map on_air ps }
