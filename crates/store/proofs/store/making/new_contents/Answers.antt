use Rattle.std.proofs.Common.{rules, tests, arith}
use Rattle.rows.specs.Texts.{no_text, text_of}
use Rattle.store.proofs.Making.{filled}
use Rattle.store.proofs.store.making.new_contents.Goals as goal

pub returns : goal.returns
returns c =
    filled text_of no_text _ (λ p x q h. search (rules, tests)) _ _ _ 32 32 c.in_ok-contents.ensures.items c.try_resize_with.ensures.items
    (omega (arith, c.in_ok-try_resize_with.ensures.len, c.try_resize_with.new.self.ok.0))
