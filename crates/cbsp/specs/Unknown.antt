-- What is told of an octet that stands for no case of its kind.
use Rattle.std.specs.Prelude.{ℕ, ◌-◌, ◌^◌, false, List, [], ◌++◌, codes}
use Rattle.std.specs.Fmt.{digits, format_spec, padded_integral}

-- an octet in hexadecimal, of two digits
abbrev pub two_digits : ℕ → List ℕ
two_digits o = padded_integral (format_spec 32 0 4 2 (2 ^ 64 - 1)) false [] (digits 16 false o)

abbrev pub unknown_text : ℕ → List ℕ
unknown_text o = codes "no case has the code " ++ two_digits o
