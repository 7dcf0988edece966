-- The laws of the answers.
use Rattle.std.proofs.Common.{◌≡◌, ℕ, ◌≤◌, true, List, [], ◌++◌, length, get_or, Some, None, Ok, Option, refl, arith}
use Rattle.cbsp.specs.declared.channel.Channel.{Channel}
use Rattle.cbsp.specs.declared.message_type.MessageType.{MessageType}
use Rattle.cbsp.specs.declared.message_type.MessageType.TheVariants as type
use Rattle.cbsp.specs.Types.{type_code, type_of}
use Rattle.elements.specs.Octets.{Octets}
use Rattle.elements.specs.Codec.{Lawful, Absent, nothing}
use Rattle.elements.specs.Parts.{may_channel, may_new_serial, may_old_serial}
use Rattle.elements.specs.Whole.{headed}
use Rattle.elements.proofs.Standing.{not_ok}
use Rattle.elements.proofs.Laws.{lawful_nothing, lawful_seq, lawful_via, absent_maybe, absent_then}
use Rattle.elements.proofs.Codings.{channel_lawful}
use Rattle.elements.proofs.PartLaws.{number_lawful, may_number_lawful, may_channel_lawful, cause_lawful, recovery_lawful, broadcast_lawful}
use Rattle.elements.proofs.Whole.{Kept, kind_forth, kind_back}
use Rattle.lists.specs.CellLists.{CellsV}
use Rattle.lists.specs.Parts.{cells, may_cells, may_completed}
use Rattle.lists.proofs.PartLaws.{cells_lawful, may_cells_lawful, completed_lawful, may_completed_lawful, failures_lawful}
use Rattle.answers.specs.Answers.{
  DoneV,
  done_elements,
  done_to,
  done_from,
  doing,
  write_complete_elements,
  write_complete_to,
  write_complete_from,
  write_completing,
  write_failure_elements,
  write_failure_to,
  write_failure_from,
  write_failing,
  kill_complete_elements,
  kill_complete_to,
  kill_complete_from,
  kill_completing,
  kill_failure_elements,
  kill_failure_to,
  kill_failure_from,
  kill_failing,
  status_complete_elements,
  status_complete_to,
  status_complete_from,
  status_completing,
  status_failure_elements,
  status_failure_to,
  status_failure_from,
  status_failing,
  reset_failure_elements,
  reset_failure_to,
  reset_failure_from,
  reset_failing,
  restart_elements,
  restart_to,
  restart_from,
  restarting,
  failure_elements,
  failure_to,
  failure_from,
  failing,
  error_elements,
  error_to,
  error_from,
  erring,
  AnswerV,
  write_complete,
  write_failure,
  kill_complete,
  kill_failure,
  status_complete,
  status_failure,
  reset_complete,
  reset_failure,
  restart,
  failure,
  error,
  keep_alive_complete,
  read_answer_of,
  read_answer,
  answer_type,
  spell_answer,
  answer_fits,
  AnswersRoundTrip,
}

done_lawful : Lawful doing
done_lawful = lawful_via done_to done_from done_elements (λ _. refl) (λ _. refl) (lawful_seq _ _ may_completed_lawful (lawful_seq _ _ may_cells_lawful may_channel_lawful))

write_complete_lawful : Lawful write_completing
write_complete_lawful = lawful_via write_complete_to write_complete_from write_complete_elements (λ _. refl) (λ _. refl) (lawful_seq _ _ (number_lawful 14) (lawful_seq _ _ (number_lawful 3) (lawful_seq _ _ (may_number_lawful 2) done_lawful)))

write_failure_lawful : Lawful write_failing
write_failure_lawful = lawful_via write_failure_to write_failure_from write_failure_elements (λ _. refl) (λ _. refl) (lawful_seq _ _ (number_lawful 14) (lawful_seq _ _ (number_lawful 3) (lawful_seq _ _ (may_number_lawful 2) (lawful_seq _ _ failures_lawful done_lawful))))

kill_complete_lawful : Lawful kill_completing
kill_complete_lawful = lawful_via kill_complete_to kill_complete_from kill_complete_elements (λ _. refl) (λ _. refl) (lawful_seq _ _ (number_lawful 14) (lawful_seq _ _ (number_lawful 2) done_lawful))

kill_failure_lawful : Lawful kill_failing
kill_failure_lawful = lawful_via kill_failure_to kill_failure_from kill_failure_elements (λ _. refl) (λ _. refl) (lawful_seq _ _ (number_lawful 14) (lawful_seq _ _ (number_lawful 2) (lawful_seq _ _ failures_lawful done_lawful)))

status_complete_lawful : Lawful status_completing
status_complete_lawful = lawful_via status_complete_to status_complete_from status_complete_elements (λ _. refl) (λ _. refl) (lawful_seq _ _ (number_lawful 14) (lawful_seq _ _ (number_lawful 2) (lawful_seq _ _ completed_lawful channel_lawful)))

status_failure_lawful : Lawful status_failing
status_failure_lawful = lawful_via status_failure_to status_failure_from status_failure_elements (λ _. refl) (λ _. refl) (lawful_seq _ _ (number_lawful 14) (lawful_seq _ _ (number_lawful 2) (lawful_seq _ _ failures_lawful (lawful_seq _ _ channel_lawful may_completed_lawful))))

reset_failure_lawful : Lawful reset_failing
reset_failure_lawful = lawful_via reset_failure_to reset_failure_from reset_failure_elements (λ _. refl) (λ _. refl) (lawful_seq _ _ failures_lawful may_cells_lawful)

restart_lawful : Lawful restarting
restart_lawful = lawful_via restart_to restart_from restart_elements (λ _. refl) (λ _. refl) (lawful_seq _ _ cells_lawful (lawful_seq _ _ broadcast_lawful recovery_lawful))

failure_lawful : Lawful failing
failure_lawful = lawful_via failure_to failure_from failure_elements (λ _. refl) (λ _. refl) (lawful_seq _ _ failures_lawful broadcast_lawful)

error_lawful : Lawful erring
error_lawful = lawful_via error_to error_from error_elements (λ _. refl) (λ _. refl) (lawful_seq _ _ cause_lawful (lawful_seq _ _ (may_number_lawful 14) (lawful_seq _ _ (may_number_lawful 3) (lawful_seq _ _ (may_number_lawful 2) may_channel_lawful))))

-- what may follow an element that is absent: another identifier of the standard
abbrev Other : ℕ → ℕ → Type 0
Other id j = (j ≡ id → ⊥) × (1 ≤ j) × (j ≤ 24)

absent_done : (id : ℕ) (v : DoneV) → Other id 8 → Other id 4 → Other id 18 → Absent id (doing.spell v ++ [])
absent_done id v a b c =
    absent_then id (may_completed.spell v.completed) _ [] (absent_maybe id 8 _ v.completed _ a
    (absent_then id (may_cells.spell v.cells) _ [] (absent_maybe id 4 _ v.cells _ b (absent_maybe id 18 _ v.channel [] c tt))))

cells_end : (v : Option Channel) → Absent 4 (may_channel.spell v ++ [])
cells_end v = absent_maybe 4 18 _ v [] (λ e. omega arith, omega arith, omega arith) tt

completed_end : (v : Option CellsV × Option Channel) → Absent 8 ((may_cells.spell v.0 ++ may_channel.spell v.1) ++ [])
completed_end v =
    absent_then 8 (may_cells.spell v.0) _ [] (absent_maybe 8 4 _ v.0 _ (λ e. omega arith, omega arith, omega arith) (absent_maybe 8 18 _ v.1 [] (λ e. omega arith, omega arith, omega arith) tt))

done_ends : doing.Follow []
done_ends = ((tt, λ w _. cells_end w), λ w _. completed_end w)

old_end : (v : DoneV) → Absent 2 (doing.spell v ++ [])
old_end v = absent_done 2 v (λ e. omega arith, omega arith, omega arith) (λ e. omega arith, omega arith, omega arith) (λ e. omega arith, omega arith, omega arith)

write_complete_ends : write_completing.Follow []
write_complete_ends = (((done_ends, λ w _. old_end w), λ _ _. tt), λ _ _. tt)

write_failure_ends : write_failing.Follow []
write_failure_ends = ((((done_ends, λ _ _. tt), λ _ _. (λ e. omega arith, omega arith, omega arith)), λ _ _. tt), λ _ _. tt)

kill_complete_ends : kill_completing.Follow []
kill_complete_ends = ((done_ends, λ _ _. tt), λ _ _. tt)

kill_failure_ends : kill_failing.Follow []
kill_failure_ends = (((done_ends, λ _ _. tt), λ _ _. tt), λ _ _. tt)

status_complete_ends : status_completing.Follow []
status_complete_ends = (((tt, λ _ _. tt), λ _ _. tt), λ _ _. tt)

status_failure_ends : status_failing.Follow []
status_failure_ends = ((((tt, λ _ _. tt), λ _ _. tt), λ _ _. tt), λ _ _. tt)

reset_failure_ends : reset_failing.Follow []
reset_failure_ends = (tt, λ _ _. tt)

restart_ends : restarting.Follow []
restart_ends = ((tt, λ _ _. tt), λ _ _. tt)

failure_ends : failing.Follow []
failure_ends = (tt, λ _ _. tt)

-- the optional elements of ERROR INDICATION
channel_last : (id : ℕ) (v : Option Channel) → Other id 18 → Absent id (may_channel.spell v ++ [])
channel_last id v a = absent_maybe id 18 _ v [] a tt

old_last : (id : ℕ) (v : Option ℕ × Option Channel) → Other id 2 → Other id 18 → Absent id ((may_old_serial.spell v.0 ++ may_channel.spell v.1) ++ [])
old_last id v a b = absent_then id (may_old_serial.spell v.0) _ [] (absent_maybe id 2 _ v.0 _ a (channel_last id v.1 b))

new_last :
    (id : ℕ) (v : Option ℕ × (Option ℕ × Option Channel)) → Other id 3 → Other id 2 → Other id 18
    → Absent id ((may_new_serial.spell v.0 ++ (may_old_serial.spell v.1.0 ++ may_channel.spell v.1.1)) ++ [])
new_last id v a b c = absent_then id (may_new_serial.spell v.0) _ [] (absent_maybe id 3 _ v.0 _ a (old_last id v.1 b c))

error_ends : erring.Follow []
error_ends = (
  (
    (
      (tt, λ w _. channel_last 2 w (λ e. omega arith, omega arith, omega arith)),
      λ w _. old_last 3 w (λ e. omega arith, omega arith, omega arith) (λ e. omega arith, omega arith, omega arith),
    ),
    λ w _. new_last 14 w (λ e. omega arith, omega arith, omega arith) (λ e. omega arith, omega arith, omega arith) (λ e. omega arith, omega arith, omega arith),
  ),
  λ _ _. tt,
)

answer_forth :
    (t : Option MessageType) (os : List ℕ) (m : AnswerV) → Octets os → 4 ≤ length os → read_answer_of t os ≡ Ok m → Kept spell_answer answer_fits answer_type t os m
answer_forth (Some type.WriteReplaceComplete) os m o h e = kind_forth spell_answer answer_fits answer_type type.WriteReplaceComplete write_completing write_complete write_complete_lawful (λ _. refl) (λ _. refl) (λ _. refl) os m o h e
answer_forth (Some type.WriteReplaceFailure) os m o h e = kind_forth spell_answer answer_fits answer_type type.WriteReplaceFailure write_failing write_failure write_failure_lawful (λ _. refl) (λ _. refl) (λ _. refl) os m o h e
answer_forth (Some type.KillComplete) os m o h e = kind_forth spell_answer answer_fits answer_type type.KillComplete kill_completing kill_complete kill_complete_lawful (λ _. refl) (λ _. refl) (λ _. refl) os m o h e
answer_forth (Some type.KillFailure) os m o h e = kind_forth spell_answer answer_fits answer_type type.KillFailure kill_failing kill_failure kill_failure_lawful (λ _. refl) (λ _. refl) (λ _. refl) os m o h e
answer_forth (Some type.MessageStatusQueryComplete) os m o h e = kind_forth spell_answer answer_fits answer_type type.MessageStatusQueryComplete status_completing status_complete status_complete_lawful (λ _. refl) (λ _. refl) (λ _. refl) os m o h e
answer_forth (Some type.MessageStatusQueryFailure) os m o h e = kind_forth spell_answer answer_fits answer_type type.MessageStatusQueryFailure status_failing status_failure status_failure_lawful (λ _. refl) (λ _. refl) (λ _. refl) os m o h e
answer_forth (Some type.ResetComplete) os m o h e = kind_forth spell_answer answer_fits answer_type type.ResetComplete cells reset_complete cells_lawful (λ _. refl) (λ _. refl) (λ _. refl) os m o h e
answer_forth (Some type.ResetFailure) os m o h e = kind_forth spell_answer answer_fits answer_type type.ResetFailure reset_failing reset_failure reset_failure_lawful (λ _. refl) (λ _. refl) (λ _. refl) os m o h e
answer_forth (Some type.Restart) os m o h e = kind_forth spell_answer answer_fits answer_type type.Restart restarting restart restart_lawful (λ _. refl) (λ _. refl) (λ _. refl) os m o h e
answer_forth (Some type.Failure) os m o h e = kind_forth spell_answer answer_fits answer_type type.Failure failing failure failure_lawful (λ _. refl) (λ _. refl) (λ _. refl) os m o h e
answer_forth (Some type.ErrorIndication) os m o h e = kind_forth spell_answer answer_fits answer_type type.ErrorIndication erring error error_lawful (λ _. refl) (λ _. refl) (λ _. refl) os m o h e
answer_forth (Some type.KeepAliveComplete) os m o h e = kind_forth spell_answer answer_fits answer_type type.KeepAliveComplete nothing keep_alive_complete lawful_nothing (λ _. refl) (λ _. refl) (λ _. refl) os m o h e
answer_forth (Some type.WriteReplace) os m o h e = absurd (not_ok _ _ e)
answer_forth (Some type.Kill) os m o h e = absurd (not_ok _ _ e)
answer_forth (Some type.LoadQuery) os m o h e = absurd (not_ok _ _ e)
answer_forth (Some type.LoadQueryComplete) os m o h e = absurd (not_ok _ _ e)
answer_forth (Some type.LoadQueryFailure) os m o h e = absurd (not_ok _ _ e)
answer_forth (Some type.MessageStatusQuery) os m o h e = absurd (not_ok _ _ e)
answer_forth (Some type.SetDrx) os m o h e = absurd (not_ok _ _ e)
answer_forth (Some type.SetDrxComplete) os m o h e = absurd (not_ok _ _ e)
answer_forth (Some type.SetDrxFailure) os m o h e = absurd (not_ok _ _ e)
answer_forth (Some type.Reset) os m o h e = absurd (not_ok _ _ e)
answer_forth (Some type.KeepAlive) os m o h e = absurd (not_ok _ _ e)
answer_forth None os m o h e = absurd (not_ok _ _ e)

answer_back : (m : AnswerV) → answer_fits m ≡ true → read_answer (headed (type_code (answer_type m)) (spell_answer m)) ≡ Ok m
answer_back (write_complete v) f = kind_back 2 write_completing write_complete write_complete_lawful write_complete_ends v f
answer_back (write_failure v) f = kind_back 3 write_failing write_failure write_failure_lawful write_failure_ends v f
answer_back (kill_complete v) f = kind_back 5 kill_completing kill_complete kill_complete_lawful kill_complete_ends v f
answer_back (kill_failure v) f = kind_back 6 kill_failing kill_failure kill_failure_lawful kill_failure_ends v f
answer_back (status_complete v) f = kind_back 11 status_completing status_complete status_complete_lawful status_complete_ends v f
answer_back (status_failure v) f = kind_back 12 status_failing status_failure status_failure_lawful status_failure_ends v f
answer_back (reset_complete v) f = kind_back 17 cells reset_complete cells_lawful tt v f
answer_back (reset_failure v) f = kind_back 18 reset_failing reset_failure reset_failure_lawful reset_failure_ends v f
answer_back (restart v) f = kind_back 19 restarting restart restart_lawful restart_ends v f
answer_back (failure v) f = kind_back 20 failing failure failure_lawful failure_ends v f
answer_back (error v) f = kind_back 21 erring error error_lawful error_ends v f
answer_back (keep_alive_complete v) f = kind_back 23 nothing keep_alive_complete lawful_nothing tt v f

pub answers_round_trip : AnswersRoundTrip
answers_round_trip = (λ os m o h e. let k = answer_forth (type_of (get_or os 0 0)) os m o h e in (k.spelt, k.fit, k.typed), answer_back)
