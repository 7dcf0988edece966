-- When two messages of a cell are the same, and which of a list that is.
use Rattle.std.specs.Prelude.{ℕ, Bool, true, false, cond, ◌&&◌, List, [], ◌∷◌, Option, ◌==◌}
use Rattle.std.specs.List.{find, list_any, position_from}
use Rattle.cbsp.specs.declared.channel.Channel.{Channel}
use Rattle.cbsp.specs.declared.channel.Channel.TheVariants.{Basic, Extended}
use Rattle.cbsp.specs.Serials.{serial_code}
use Rattle.rows.specs.declared.row.Row.{Row}
use Rattle.rows.specs.declared.key.Key.{Key}

abbrev pub same_channel : Channel → Channel → Bool
same_channel Basic Basic = true
same_channel Basic Extended = false
same_channel Extended Basic = false
same_channel Extended Extended = true

abbrev pub key_of : Channel → ℕ → ℕ → Key
key_of channel identifier serial = record { channel = channel; identifier = identifier; code = serial_code serial }

-- channel, identifier and code agree
abbrev pub is_same : Key → Row → Bool
is_same k r = same_channel r.channel k.channel && r.identifier == k.identifier && serial_code r.serial == k.code

-- the place of the first that passes, where the list begins at place n
abbrev pub place_from : {X : Type 0} → (X → Bool) → ℕ → List X → Option ℕ
place_from test n xs = position_from test n xs

abbrev pub place_of : {X : Type 0} → (X → Bool) → List X → Option ℕ
place_of test xs = place_from test 0 xs

-- the first that passes
abbrev pub first_of : {X : Type 0} → (X → Bool) → List X → Option X
first_of test xs = find test xs

-- the list without the first that passes
abbrev pub without : {X : Type 0} → (X → Bool) → List X → List X
without test [] = []
without test (x ∷ xs) = cond (test x) xs (x ∷ without test xs)

-- one of them passes
abbrev pub any_of : {X : Type 0} → (X → Bool) → List X → Bool
any_of test xs = list_any test xs
