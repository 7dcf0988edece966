-- A serial number's code is its twelve most significant bits; the other four count updates of the same message.
use Rattle.std.specs.Prelude.{ℕ, ◌/◌, Bool, ◌==◌}

abbrev pub serial_code : ℕ → ℕ
serial_code s = s / 16

abbrev pub same_code : ℕ → ℕ → Bool
same_code s t = serial_code s == serial_code t
