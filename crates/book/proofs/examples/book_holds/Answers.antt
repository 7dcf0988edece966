use Rattle.std.proofs.Common.{refl}
use Rattle.book.proofs.examples.book_holds.Goals as goal

pub returns-clause-messages : goal.returns-clause-messages
returns-clause-messages c = record { nothing = refl; request = refl; write_complete = refl; write_failure = refl; write_unsaid = refl; kill_complete = refl; kill_failure = refl; kill_unsaid = refl; status_complete = refl; reset_complete = refl; reset_failure = refl; no_reset = refl; lost = refl; available = refl; failure = refl; error = refl; keep_alive = refl }

pub returns-clause-compared : goal.returns-clause-compared
returns-clause-compared c = record { same_code = refl; other_code = refl; other_channel = refl; other_identifier = refl; meant = refl; other_cell = refl; other_area = refl; by_identity = refl; by_area = refl; by_all = refl; in_all = refl; in_both = refl; not_in = refl; count = refl; exact = refl; overflow = refl; unknown = refl }

pub returns-clause-book : goal.returns-clause-book
returns-clause-book c = record { kept = refl; emptied_there = refl; emptied_elsewhere = refl; ended_there = refl; ended_elsewhere = refl; began = refl; not_named = refl; replaced_there = refl; failed_there = refl; cut_off = refl; by_count = refl; without_old = refl }

pub returns-clause-sums : goal.returns-clause-sums
returns-clause-sums c = record { by_kill = refl; other_channel = refl; by_write = refl; not_counted = refl; write_elsewhere = refl; by_reset = refl; by_nothing = refl; overflow_there = refl; overflow_elsewhere = refl; overflow_by_write = refl; no_overflow = refl; reset_overflow = refl; silent_overflow = refl; was_emptied = refl; not_emptied = refl; ended_is_not = refl; written_is_not = refl; silent_is_not = refl }
