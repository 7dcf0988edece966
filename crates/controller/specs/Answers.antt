-- What comes of a call, by the rules of its refusals and of what it does.
use Rattle.std.specs.Prelude.{◌≡◌, ℕ, Bool, List, length, Some, None, Ok, Err, Option, Result}
use Rattle.cbsp.specs.declared.refusal.Refusal.{Refusal}
use Rattle.cbsp.specs.Octets.{put}
use Rattle.elements.specs.declared.faults.Fault.{Fault}
use Rattle.law.specs.State.{State}
use Rattle.law.specs.Calls.{Call, Reaction, octets_of, reaction, refusal_of}

-- checks are passed where there is no reason to refuse, else they say the reason
abbrev pub Passed : {A : Type 0} → Option Refusal → Result A Refusal → Type 0
Passed why (Ok a) = why ≡ None
Passed why (Err r) = why ≡ Some r

-- what the host is told: why a call is refused, or how many octets are sent and the fault of a message that could not be read
pub data Came : Type 0 where
  refused : Refusal → Came
  accepted : ℕ → Option Fault → Came

-- the table is as a reaction has it, and the reply stands at the start of the space, n octets; what follows it stays
pub record Reacted (r : Reaction) (n : ℕ) (after : State) (was is : List ℕ) : Type 0 where
  pub table : after ≡ r.table
  pub len : n ≡ length (octets_of r.reply)
  pub octets : is ≡ put (octets_of r.reply) 0 was

-- table and space after a call, where cells are open at the site as `opened` says
module _ (c : Call) (opened : ℕ → Bool) (before after : State) (was is : List ℕ) where
  -- refused for the first reason that there is: all stays
  pub record Refused (r : Refusal) : Type 0 where
    pub reason : refusal_of c before opened ≡ Some r
    pub table : after ≡ before
    pub space : is ≡ was

  -- accepted, for there is no reason to refuse it
  pub record Accepted (n : ℕ) (f : Option Fault) : Type 0 where
    pub reason : refusal_of c before opened ≡ None
    pub reacted : Reacted (reaction c before opened) n after was is
    pub fault : f ≡ (reaction c before opened).fault

  abbrev pub Answers : Came → Type 0
  Answers (refused r) = Refused r
  Answers (accepted n f) = Accepted n f
