-- Each request that finds messages: what it does to them, and what its reply tells, keep the invariant.
use Rattle.std.proofs.Common.{◌≡◌, ℕ, Bool, true, false, List, sym, refl, ◌∙◌, arith, ◌<◌, length, [], map, Ok, Option, Result, ap}
use Rattle.std.proofs.lemmas.Bool.{both_ways}
use Rattle.answering.specs.Handled.{key_by, asked_by}
use Rattle.answering.specs.Replies.{begun_list, completed_list, failed_list, reset_reply, some_cells}
use Rattle.book.specs.Told.{Told, booked, is_listed, same_booked, told_by, Booked}
use Rattle.book.specs.Told.Told.{ended, silent, written}
use Rattle.cells.specs.File.{identities}
use Rattle.elements.specs.declared.faults.Fault.{Fault}
use Rattle.elements.specs.Octets.{mapped}
use Rattle.lists.specs.CellLists.{CellsV}
use Rattle.outcomes.specs.Tells.{AllSound, OutcomesTell, outcome_at}
use Rattle.outcomes.specs.Works.{kill_work, query_work, reset_work, write_work}
use Rattle.requests.specs.Requests.{ReferenceV, RequestV, WriteReplaceV, read_request, write_replace}
use Rattle.rows.specs.Texts.{Text}
use Rattle.site.specs.Model.{Model}
use Rattle.table.specs.declared.outcome.Outcome.{Outcome}
use Rattle.law.specs.Calls.{Call}
use Rattle.law.specs.Calls.Call.{messaging}
use Rattle.law.specs.Law.{book}
use Rattle.law.specs.Standing.{standing, begun, wanted_in}
use Rattle.law.specs.State.{State, rows_at, with_rows}
use Rattle.law.specs.Steps.{Moment}
use Rattle.law.proofs.Alike.{agrees_book, agrees_standing, emptied_rows, left_rows, newly_booked, same_rows}
use Rattle.law.proofs.Changes.{emptied_change, not_spoiled, silent_change}
use Rattle.law.proofs.Counts.{killed_sums, written_sums}
use Rattle.law.proofs.Ends.{few_killed, kept_ended, tied_killed, few_begun, kept_written, tied_written}
use Rattle.law.proofs.Invariants.{Change, Invariant, is_standing, newly_standing}
use Rattle.law.proofs.Listing.{Reads, lists_read, absent_begun, absent_completed}
use Rattle.law.proofs.Pasts.{Keeps}
use Rattle.law.proofs.Periods.{Is}
use Rattle.law.proofs.Telling.{reset_adds, reset_spoils, reset_stands}

-- a message, handed over on an announced link
module _ (tells : OutcomesTell) (ms : List Moment) (t : State) (site : Model) (i : Invariant ms t site) (link : ℕ) (octets : List ℕ) (marks space : ℕ)
    (opened : ℕ → Bool) (announced : t.announced ≡ true) where
  abbrev call : Call
  call = messaging link octets marks space

  ever : t.ever ≡ true
  ever = i.heard announced

  -- the lists of the reply at a cell of the table
  read : (out : List Outcome) → AllSound t.cells out → (k : ℕ) → k < length t.cells → Reads t.cells out k
  read out sound k l = lists_read t.cells out k i.checked.apart sound l

  -- MESSAGE STATUS QUERY
  pub queried : (r : ReferenceV) → Change ms call silent t (with_rows t (query_work t.cells opened (key_by r) t.rows r.cells).rows t.texts)
  queried r =
      let told = tells.query t.cells opened (key_by r) t.rows r.cells i.long in
      silent_change ms call t _ site i (record { cells = refl; long = told.long; periods = refl; heard = λ _. ever }) refl
      (λ k l. left_rows (outcome_at k (query_work t.cells opened (key_by r) t.rows r.cells).out) (rows_at t k) _ (told.cell k))

  -- KILL
  pub killed : (r : ReferenceV)
      → Change ms call (ended (booked r.channel r.identifier r.serial) (completed_list t.cells (kill_work t.cells opened (key_by r) t.rows r.cells).out)) t
      (with_rows t (kill_work t.cells opened (key_by r) t.rows r.cells).rows t.texts)
  killed r =
      let old = booked r.channel r.identifier r.serial in
      let s = kill_work t.cells opened (key_by r) t.rows r.cells in
      let told = tells.kill t.cells opened (key_by r) t.rows r.cells i.long in
      record {
        cells = refl;
        long = told.long;
        standings = λ k l.
            tied_killed Keeps is_standing (newly_standing call) agrees_standing (identities t.cells k) old (completed_list t.cells s.out) (outcome_at k s.out) (standing t.cells ms k)
            (rows_at t k) _ (read s.out told.sound k l).completed (told.cell k) (i.standings k l);
        messages = λ k l.
            tied_killed Is same_booked newly_booked agrees_book (identities t.cells k) old (completed_list t.cells s.out) (outcome_at k s.out)
            (book ms (identities t.cells k)) (rows_at t k) _ (read s.out told.sound k l).completed (told.cell k) (i.messages k l);
        nowhere = λ j n. kept_ended same_booked newly_booked j old (completed_list t.cells s.out);
        sums = λ k h l e.
            rw (read s.out told.sound k l).counts
            (killed_sums (key_by r) (outcome_at k s.out) (rows_at t k) _ (told.cell k) ((read s.out told.sound k l).whole e) h);
        few = λ k l. omega (arith, few_killed (key_by r) (outcome_at k s.out) (rows_at t k) _ (told.cell k), i.few k l);
        periods = refl;
        unheard = λ e. absurd (both_ways t.ever e ever);
        heard = λ _. ever;
      }

  -- RESET
  pub emptied : (list : CellsV)
      → Change ms call (told_by (reset_reply (begun_list t.cells (reset_work t.cells opened t.rows list).out) (failed_list t.cells (reset_work t.cells opened t.rows list).out))) t
      (with_rows t (reset_work t.cells opened t.rows list).rows t.texts)
  emptied list =
      let s = reset_work t.cells opened t.rows list in
      let told = tells.reset t.cells opened t.rows list i.long in
      let b = begun_list t.cells s.out in
      let f = failed_list t.cells s.out in
      let x : Told = told_by (reset_reply b f) in
      emptied_change ms call t _ site i (record { cells = refl; long = told.long; periods = refl; heard = λ _. ever }) x b
      (λ j ss. reset_stands is_standing (newly_standing call) j b f ss)
      (λ j bs. reset_stands same_booked newly_booked j b f bs)
      (λ j h. reset_adds j h b f)
      (λ k l. rw (read s.out told.sound k l).begun (emptied_rows (outcome_at k s.out) (rows_at t k) _ (told.cell k)))
      (λ k l e.
      let q : is_listed (identities t.cells k) b ≡ false = sym (reset_spoils (identities t.cells k) b f).0 ∙ not_spoiled call x (identities t.cells k) refl e in
      same_rows (outcome_at k s.out) (rows_at t k) _ (told.cell k) (sym (read s.out told.sound k l).begun ∙ q))
      ever

  -- WRITE-REPLACE: the old message may end where the new one then fails, and the two may have the same code. The reply tells both, each by its own list
  pub replaced : (w : WriteReplaceV) (texts : List Text) → read_request octets ≡ Ok (write_replace w)
      → Change ms call
      (written (mapped (booked w.channel w.identifier) w.old_serial) (booked w.channel w.identifier w.new_serial)
      (completed_list t.cells (write_work t.cells opened (asked_by w) t.rows w.cells).out)
      (some_cells (begun_list t.cells (write_work t.cells opened (asked_by w) t.rows w.cells).out))
      (failed_list t.cells (write_work t.cells opened (asked_by w) t.rows w.cells).out)) t
      (with_rows t (write_work t.cells opened (asked_by w) t.rows w.cells).rows texts)
  replaced w texts asked =
      let q = asked_by w in
      let s = write_work t.cells opened q t.rows w.cells in
      let told = tells.write t.cells opened q t.rows w.cells i.long in
      let b = begun_list t.cells s.out in
      let c = completed_list t.cells s.out in
      let f = failed_list t.cells s.out in
      let old : Option Booked = mapped (booked w.channel w.identifier) w.old_serial in
      let new = booked w.channel w.identifier w.new_serial in
      record {
        cells = refl;
        long = told.long;
        standings = λ k l.
            tied_written Keeps is_standing (newly_standing call) agrees_standing (identities t.cells k) q _ b c f (outcome_at k s.out) (standing t.cells ms k) (rows_at t k) _
            (ap (λ (m : Result RequestV Fault). map begun (wanted_in m)) asked)
            (λ slot. record { message = refl; period = refl; requested = refl; count = refl; wait = refl })
            (read s.out told.sound k l).begun (read s.out told.sound k l).completed
            (read s.out told.sound k l).failed (told.cell k) (i.standings k l);
        messages = λ k l.
            tied_written Is same_booked newly_booked agrees_book (identities t.cells k) q new b c f (outcome_at k s.out) (book ms (identities t.cells k)) (rows_at t k) _
            refl (λ slot. refl) (read s.out told.sound k l).begun (read s.out told.sound k l).completed
            (read s.out told.sound k l).failed (told.cell k) (i.messages k l);
        nowhere = λ j n. kept_written same_booked newly_booked j old new b c f [] (absent_begun t.cells s.out j told.sound n) (absent_completed t.cells s.out j told.sound n);
        sums = λ k h l e.
            rw (read s.out told.sound k l).counts
            (written_sums q (outcome_at k s.out) (rows_at t k) _ (told.cell k) ((read s.out told.sound k l).whole e) h);
        few = λ k l. few_begun q (outcome_at k s.out) (rows_at t k) _ (told.cell k) (i.few k l);
        periods = refl;
        unheard = λ e. absurd (both_ways t.ever e ever);
        heard = λ _. ever;
      }
