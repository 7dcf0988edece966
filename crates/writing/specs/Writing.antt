-- What a write leaves.
use Rattle.std.specs.Prelude.{◌≡◌, ℕ, ◌<◌, Bool, true, false, ◌&&◌, List, length, Ok, Err, Result, nat_le}
use Rattle.elements.specs.Octets.{Wrote}
use Rattle.messages.specs.Messages.{MessageV, fits, spell}
use Rattle.writing.specs.declared.unwritten.Unwritten.{Unwritten}
use Rattle.writing.specs.declared.unwritten.Unwritten.TheVariants.{OutOfRange, NoRoom}

-- each element in its range, and at most 2,048 octets in all
abbrev pub can_be_spelt : Bool → List ℕ → Bool
can_be_spelt fits xs = fits && nat_le (length xs) 2048

abbrev pub spellable : MessageV → Bool
spellable m = can_be_spelt (fits m) (spell m)

-- the octets xs stand at the start and all else is as before; or nothing is changed, and they can't be spelt or are more than the space has
abbrev pub WrittenAs : Bool → List ℕ → List ℕ → List ℕ → Result ℕ Unwritten → Type 0
WrittenAs can xs was is (Ok n) = (can ≡ true) × Wrote xs 0 was is n
WrittenAs can xs was is (Err OutOfRange) = (can ≡ false) × (is ≡ was)
WrittenAs can xs was is (Err NoRoom) = (can ≡ true) × (length was < length xs) × (is ≡ was)

-- the message stands at the start and all else is as before; or nothing is changed, and the message is out of range or longer than the space
abbrev pub Written : MessageV → List ℕ → List ℕ → Result ℕ Unwritten → Type 0
Written m was is r = WrittenAs (spellable m) (spell m) was is r
