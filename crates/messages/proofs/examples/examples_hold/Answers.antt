use Rattle.std.proofs.Common.{refl}
use Rattle.messages.proofs.examples.examples_hold.Goals as goal

pub returns : goal.returns
returns c = (
  record { keep_alive_read = refl; keep_alive_complete_spelt = refl; keep_alive_bad = refl; keep_alive_error = refl; kill_read = refl; kill_failure_spelt = refl; restart_read = refl; reset_read = refl; reset_complete_spelt = refl },
  (
    record { no_request = refl; ends = refl; other_element = refl; no_element = refl; zero_element = refl; list_past = refl; list_empty = refl; spare_bits = refl; entry_broken = refl; all_with_entries = refl; entry_bad = refl; bad_and_broken = refl; bad_and_unknown = refl; octets_follow = refl; emergency = refl; no_channel = refl },
    record { twelve_seconds = refl; thirty_seconds = refl; thirty_five_seconds = refl; two_minutes = refl; same_serial = refl; other_serial = refl; page_two_of_three = refl },
  ),
)
