-- Worked examples of why calls are refused, and of the links that a host holds.
use Rattle.std.specs.Prelude.{◌≡◌, ℕ, true, false, List, [], ◌∷◌, replicate, Some, None, Option, ◌==◌}
use Rattle.cbsp.specs.declared.refusal.Refusal.{Refusal}
use Rattle.cbsp.specs.declared.refusal.Refusal.TheVariants as refusal
use Rattle.elements.specs.declared.recovery.Recovery.TheVariants.{Lost}
use Rattle.law.specs.State.{State, with_link, with_period}
use Rattle.law.specs.Calls.{Call, refusal_of}
use Rattle.law.specs.Calls.Call.{opening, announcing, messaging, period, losing, returning, shutting}
use Rattle.law.specs.Steps.{Link, is_linked, links_after}
use Rattle.law.specs.Steps.Link.{waiting, open_link, gone}
use Rattle.law.specs.Examples.{table_with}

-- a table whose link 1 is announced, and one whose link 1 is not
abbrev announced : State
announced = table_with true []

abbrev waits : State
waits = table_with false []

-- why a call is refused where cell 0 is open and cell 1 is closed
abbrev why : Call → State → Option Refusal
why c t = refusal_of c t (λ k. k == 0)

-- KEEP-ALIVE, and the same without its last octet
abbrev whole : List ℕ
whole = 0x16 ∷ 0x00 ∷ 0x00 ∷ 0x02 ∷ 0x18 ∷ 0x26 ∷ []

abbrev cut_off : List ℕ
cut_off = 0x16 ∷ 0x00 ∷ 0x00 ∷ 0x02 ∷ 0x18 ∷ []

-- the first condition that holds gives the refusal, also where later ones hold
pub record RefusalsHold : Type 0 where
  pub opened : why opening (with_link announced 65534 true true) ≡ None
  pub openings : why opening (with_link announced 65535 true true) ≡ Some refusal.OpeningsUsedUp
  pub announcing_taken : why (announcing 1 2048) waits ≡ None
  pub announcing_again : why (announcing 1 2048) announced ≡ None
  pub announcing_space : why (announcing 2 2047) waits ≡ Some refusal.ReplySpaceTooSmall
  pub announcing_stale : why (announcing 2 2048) waits ≡ Some refusal.LinkNotCurrent
  pub message_taken : why (messaging 1 whole 64 2048) announced ≡ None
  pub message_space : why (messaging 2 [] 63 2047) announced ≡ Some refusal.ReplySpaceTooSmall
  pub message_marks : why (messaging 2 (replicate 2049 0) 63 2048) announced ≡ Some refusal.WrongMarkCount
  pub message_more_marks : why (messaging 1 whole 65 2048) announced ≡ Some refusal.WrongMarkCount
  pub message_long : why (messaging 2 (replicate 2049 0) 64 2048) announced ≡ Some refusal.MessageTooLong
  pub message_cut : why (messaging 2 cut_off 64 2048) announced ≡ Some refusal.MessageNotWhole
  pub message_longest : why (messaging 1 (replicate 2048 0) 64 2048) announced ≡ Some refusal.MessageNotWhole
  pub message_stale : why (messaging 2 whole 64 2048) announced ≡ Some refusal.LinkNotCurrent
  pub message_waiting : why (messaging 1 whole 64 2048) waits ≡ Some refusal.LinkNotCurrent
  pub period_made : why period (with_period announced [] 4294967294) ≡ None
  pub periods : why period (with_period announced [] 4294967295) ≡ Some refusal.PeriodsUsedUp
  pub losing_taken : why (losing 1 0 2048) announced ≡ None
  pub losing_space : why (losing 2 2 2047) announced ≡ Some refusal.ReplySpaceTooSmall
  pub losing_stale : why (losing 2 2 2048) announced ≡ Some refusal.LinkNotCurrent
  pub losing_waiting : why (losing 1 2 2048) waits ≡ Some refusal.LinkNotCurrent
  pub losing_none : why (losing 1 2 2048) announced ≡ Some refusal.NoSuchCell
  pub losing_closed : why (losing 1 1 2048) announced ≡ Some refusal.CellAlreadySo
  pub returning_taken : why (returning 1 1 Lost 2048) announced ≡ None
  pub returning_space : why (returning 2 2 Lost 2047) announced ≡ Some refusal.ReplySpaceTooSmall
  pub returning_stale : why (returning 2 2 Lost 2048) announced ≡ Some refusal.LinkNotCurrent
  pub returning_waiting : why (returning 1 2 Lost 2048) waits ≡ Some refusal.LinkNotCurrent
  pub returning_none : why (returning 1 2 Lost 2048) announced ≡ Some refusal.NoSuchCell
  pub returning_open : why (returning 1 0 Lost 2048) announced ≡ Some refusal.CellAlreadySo
  pub shutting_stale : why (shutting 7) waits ≡ None

-- link 0 is gone, link 1 waits, link 2 is open
abbrev three : List Link
three = gone ∷ waiting ∷ open_link ∷ []

pub record LinksHold : Type 0 where
  pub opened : links_after opening waits (gone ∷ gone ∷ gone ∷ []) ≡ gone ∷ gone ∷ waiting ∷ []
  pub announced : links_after (announcing 1 2048) waits three ≡ gone ∷ open_link ∷ open_link ∷ []
  pub message_keeps : links_after (messaging 2 whole 64 2048) waits three ≡ three
  pub period_keeps : links_after period waits three ≡ three
  pub losing_keeps : links_after (losing 2 0 2048) waits three ≡ three
  pub returning_keeps : links_after (returning 2 0 Lost 2048) waits three ≡ three
  pub shut : links_after (shutting 2) waits three ≡ gone ∷ waiting ∷ gone ∷ []
  pub may_open : is_linked opening [] ≡ true
  pub may_announce : is_linked (announcing 1 2048) three ≡ true
  pub announcing_open : is_linked (announcing 2 2048) three ≡ false
  pub announcing_gone : is_linked (announcing 0 2048) three ≡ false
  pub may_message : is_linked (messaging 2 whole 64 2048) three ≡ true
  pub messaging_waiting : is_linked (messaging 1 whole 64 2048) three ≡ false
  pub messaging_past : is_linked (messaging 3 whole 64 2048) three ≡ false
  pub may_serve : is_linked period [] ≡ true
  pub may_lose : is_linked (losing 2 0 2048) three ≡ true
  pub losing_waiting : is_linked (losing 1 0 2048) three ≡ false
  pub may_return : is_linked (returning 2 0 Lost 2048) three ≡ true
  pub returning_waiting : is_linked (returning 1 0 Lost 2048) three ≡ false
  pub may_shut_waiting : is_linked (shutting 1) three ≡ true
  pub may_shut_open : is_linked (shutting 2) three ≡ true
  pub shutting_gone : is_linked (shutting 0) three ≡ false
