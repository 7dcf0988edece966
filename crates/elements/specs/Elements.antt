-- Elements at a place of a message: an identifier, and what follows it.
use Rattle.std.specs.Prelude.{ℕ, ◌+◌, Bool, cond, ◌&&◌, List, length, Some, None, Ok, Err, Option, Result, ◌==◌, nat_le, nat_lt, slice_index}
use Rattle.elements.specs.declared.faults.ElementFault.{ElementFault}
use Rattle.elements.specs.declared.faults.ElementFault.TheVariants.{Unknown, RunsPast, OutOfRange}
use Rattle.elements.specs.declared.faults.Fault.{Fault}
use Rattle.cbsp.specs.Octets.{two_at}
use Rattle.elements.specs.Octets.{then, raised}
use Rattle.elements.specs.Faults.{to_message, missing}

-- the place of what follows an identifier, nothing where the message ends or another identifier of the standard stands there
abbrev pub find : ℕ → List ℕ → ℕ → Result (Option ℕ) ElementFault
find id os at =
    cond (nat_lt at (length os))
    (cond (slice_index os at == id) (Ok (Some (at + 1)))
    (cond (nat_le 1 (slice_index os at) && nat_le (slice_index os at) 24) (Ok None) (Err (Unknown at))))
    (Ok None)

-- the same of a Channel Indicator that must be there: an Emergency Indicator in its place is not recognised
abbrev pub find_channel : List ℕ → ℕ → Result (Option ℕ) ElementFault
find_channel os at = cond (nat_lt at (length os) && slice_index os at == 15) (Err (Unknown at)) (find 18 os at)

-- an element that a message must have at a place
abbrev pub sought : {V : Type 0} → ℕ → (ℕ → Result (V × ℕ) ElementFault) → Option ℕ → Result (V × ℕ) Fault
sought at read None = Err (missing at)
sought at read (Some body) = raised to_message (read body)

abbrev pub mandatory : {V : Type 0} → Result (Option ℕ) ElementFault → ℕ → (ℕ → Result (V × ℕ) ElementFault) → Result (V × ℕ) Fault
mandatory found at read = then (raised to_message found) (sought at read)

-- an element that may be absent
abbrev pub as_some : {V : Type 0} → Result (V × ℕ) ElementFault → Result (Option V × ℕ) Fault
as_some (Ok p) = Ok (Some p.0, p.1)
as_some (Err e) = Err (to_message e)

abbrev pub maybe : {V : Type 0} → ℕ → (ℕ → Result (V × ℕ) ElementFault) → Option ℕ → Result (Option V × ℕ) Fault
maybe at read None = Ok (None, at)
maybe at read (Some body) = as_some (read body)

abbrev pub possible : {V : Type 0} → Result (Option ℕ) ElementFault → ℕ → (ℕ → Result (V × ℕ) ElementFault) → Result (Option V × ℕ) Fault
possible found at read = then (raised to_message found) (maybe at read)

abbrev pub within : ℕ → ℕ → ℕ → Bool
within lo hi n = nat_le lo n && nat_le n hi

-- a number of two octets in a range
abbrev pub read_two : ℕ → ℕ → List ℕ → ℕ → ℕ → Result (ℕ × ℕ) ElementFault
read_two lo hi os at body =
    cond (nat_le (body + 2) (length os))
    (cond (within lo hi (two_at os body)) (Ok (two_at os body, body + 2)) (Err (OutOfRange body)))
    (Err (RunsPast at))

-- a value of one octet
abbrev pub valued : {V : Type 0} → ℕ → Option V → Result (V × ℕ) ElementFault
valued body (Some v) = Ok (v, body + 1)
valued body None = Err (OutOfRange body)

abbrev pub read_coded : {V : Type 0} → (ℕ → Option V) → List ℕ → ℕ → ℕ → Result (V × ℕ) ElementFault
read_coded decode os at body = cond (nat_lt body (length os)) (valued body (decode (slice_index os body))) (Err (RunsPast at))

-- an octet in a range
abbrev pub ranged : ℕ → ℕ → ℕ → Option ℕ
ranged lo hi o = cond (within lo hi o) (Some o) None
