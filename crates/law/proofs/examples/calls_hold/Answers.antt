use Rattle.std.proofs.Common.{refl}
use Rattle.law.proofs.examples.calls_hold.Goals as goal
use Rattle.pages.specs.Pages.{read_times}
use Rattle.table.specs.Pool.{free_slot}
use Rattle.table.specs.Write.{answer_write, cause_now, cleared, slot_now, write_after, written}

pub returns-clause-calls : goal.returns-clause-calls
returns-clause-calls c = record { first_announcing = refl; later_announcing = refl; reset_answered = refl; keep_alive_answered = refl; fault_answered = refl; fault_told = refl; kill_of_none = refl; killed_by_code = refl; kept_by_code = refl; plain_count = refl; overflow = refl }

pub returns-clause-tables : goal.returns-clause-tables
unfolding read_times written write_after cause_now cleared slot_now free_slot
returns-clause-tables c = record { opened = refl; announced = refl; begun = refl; kept_alive = refl; fault_keeps = refl; queried = refl; emptied = refl; lost = refl; came_empty = refl; came_full = refl; shut = refl; shut_stale = refl; shut_waiting = refl }

pub returns-clause-sent : goal.returns-clause-sent
unfolding read_times written write_after answer_write cause_now cleared slot_now free_slot
returns-clause-sent c = record { opened = refl; lost = refl; came_empty = refl; came_full = refl; shut = refl; begun = refl }

pub returns-clause-overdue : goal.returns-clause-overdue
returns-clause-overdue c = record { none = refl; not_yet = refl; overdue = refl }

pub returns-clause-refusals : goal.returns-clause-refusals
returns-clause-refusals c = record { opened = refl; openings = refl; announcing_taken = refl; announcing_again = refl; announcing_space = refl; announcing_stale = refl; message_taken = refl; message_space = refl; message_marks = refl; message_more_marks = refl; message_long = refl; message_cut = refl; message_longest = refl; message_stale = refl; message_waiting = refl; period_made = refl; periods = refl; losing_taken = refl; losing_space = refl; losing_stale = refl; losing_waiting = refl; losing_none = refl; losing_closed = refl; returning_taken = refl; returning_space = refl; returning_stale = refl; returning_waiting = refl; returning_none = refl; returning_open = refl; shutting_stale = refl }

pub returns-clause-links : goal.returns-clause-links
returns-clause-links c = record { opened = refl; announced = refl; message_keeps = refl; period_keeps = refl; losing_keeps = refl; returning_keeps = refl; shut = refl; may_open = refl; may_announce = refl; announcing_open = refl; announcing_gone = refl; may_message = refl; messaging_waiting = refl; messaging_past = refl; may_serve = refl; may_lose = refl; losing_waiting = refl; may_return = refl; returning_waiting = refl; may_shut_waiting = refl; may_shut_open = refl; shutting_gone = refl }
