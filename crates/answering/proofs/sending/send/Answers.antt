use Rattle.std.proofs.Common.{◌≡◌, ℕ, ◌≤◌, true, List, length, Err, arith}
use Rattle.std.proofs.lemmas.Bool.{and_parts, both_ways, leb-true}
use Rattle.answers.specs.Answers.{answer_meant}
use Rattle.messages.specs.Messages.{MessageV, answer, fits, spell}
use Rattle.writing.specs.declared.unwritten.Unwritten.{Unwritten}
use Rattle.writing.specs.declared.unwritten.Unwritten.TheVariants.{OutOfRange, NoRoom}
use Rattle.writing.specs.Writing.{spellable, Written}
use Rattle.answering.proofs.sending.send.Goals as goal

-- what can be spelt is written into 2,048 octets
is_written : (m : MessageV) (was is : List ℕ) (u : Unwritten) → spellable m ≡ true → 2048 ≤ length was → Written m was is (Err u) → ⊥
is_written m was is OutOfRange s l w = both_ways (spellable m) w.0 s
is_written m was is NoRoom s l w =
    let n : length (spell m) ≤ 2048 = leb-true _ _ (and_parts (fits m) _ s).1 in
    omega arith

pub unreachable-requires : goal.unreachable-requires
unreachable-requires c =
    is_written (answer (answer_meant c.args.answer)) c.args.space.now _ c.in-Err.field-0 c.requires.fits c.requires.room c.in-Err.ensures.value
