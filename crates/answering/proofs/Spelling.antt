-- Each reply can be spelt where its lists fit.
use Rattle.std.proofs.Common.{◌≡◌, ℕ, ◌+◌, ◌≤◌, true, List, [], ◌∷◌, length, refl, arith}
use Rattle.std.proofs.lemmas.Bool.{and_parts}
use Rattle.answers.specs.Answers.{doing}
use Rattle.cbsp.specs.declared.channel.Channel.{Channel}
use Rattle.cbsp.specs.Channels.{channel_code, channel_of}
use Rattle.elements.specs.Codec.{Codec, channel, coded_body, element, fits_maybe, seq}
use Rattle.elements.specs.Elements.{within}
use Rattle.elements.specs.Parts.{identifier, may_old_serial, new_serial, old_serial}
use Rattle.lists.specs.CellLists.{cells_fit}
use Rattle.lists.specs.Entries.{Entry}
use Rattle.lists.specs.Kinds.{cell_kind, completed_kind}
use Rattle.lists.specs.Lists.{entry_list}
use Rattle.lists.specs.Parts.{completed, failures}
use Rattle.requests.specs.Requests.{ReferenceV, WriteReplaceV, reference, writing}
use Rattle.answering.specs.Fitting.{Spelt}
use Rattle.answering.specs.Replies.{done_in, kill_reply, query_reply, reset_reply, write_reply}
use Rattle.answering.proofs.Listing.{may_cells_lem, may_list, room_cells}
use Rattle.answering.proofs.Rooms.{Room, room_code, room_may_number, room_number, room_seq, room_some, spelt_from}

-- the parts of a request that its reply repeats
pub record WriteFits (w : WriteReplaceV) : Type 0 where
  pub identifier : within 0 65535 w.identifier ≡ true
  pub new_serial : within 0 65535 w.new_serial ≡ true
  pub old_serial : fits_maybe (within 0 65535) w.old_serial ≡ true
  pub cells : cells_fit w.cells ≡ true

pub write_fits : (w : WriteReplaceV) → writing.fits w ≡ true → WriteFits w
write_fits w f =
    let i = and_parts (within 0 65535 w.identifier) _ f in
    let n = and_parts (within 0 65535 w.new_serial) _ i.1 in
    let o = and_parts (fits_maybe (within 0 65535) w.old_serial) _ n.1 in
    record { identifier = i.0; new_serial = n.0; old_serial = o.0; cells = (and_parts (cells_fit w.cells) _ o.1).0 }

pub record ReferenceFits (r : ReferenceV) : Type 0 where
  pub identifier : within 0 65535 r.identifier ≡ true
  pub serial : within 0 65535 r.serial ≡ true
  pub cells : cells_fit r.cells ≡ true

pub reference_fits : (r : ReferenceV) → reference.fits r ≡ true → ReferenceFits r
reference_fits r f =
    let i = and_parts (within 0 65535 r.identifier) _ f in
    let s = and_parts (within 0 65535 r.serial) _ i.1 in
    record { identifier = i.0; serial = s.0; cells = (and_parts (cells_fit r.cells) _ s.1).0 }

-- a list of entries that is given fits
abbrev pub Begun : List Entry → Type 0
Begun es = 1 ≤ length es → Room (element 4 (entry_list cell_kind)) es 260

abbrev pub Completed : List Entry → Type 0
Completed es = 1 ≤ length es → Room completed es 452

abbrev pub Failed : List Entry → Type 0
Failed es = 1 ≤ length es → Room failures es 1155

room_channel : (c : Channel) → Room channel c 2
room_channel c = record { fit = refl; wide = omega arith }

room_done : (c : Channel) (es bs : List Entry) → Completed es → Begun bs → Room doing (done_in c es bs) 714
room_done c es bs e b =
    let r = room_seq (may_list completed_kind 8 452 es e) (room_seq (may_cells_lem 260 bs b) (room_some 18 (coded_body channel_code channel_of) (room_code 18 channel_code channel_of c))) in
    record { fit = r.fit; wide = r.wide }

-- what stands before the lists of a reply
room_write : (w : WriteReplaceV) → WriteFits w → {V : Type 0} {c : Codec V} {v : V} {n : ℕ} → Room c v n → Room (seq identifier (seq new_serial (seq may_old_serial c))) (w.identifier, (w.new_serial, (w.old_serial, v))) (9 + n)
room_write w p r =
    let s = room_seq (room_number 14 w.identifier p.identifier) (room_seq (room_number 3 w.new_serial p.new_serial) (room_seq (room_may_number 2 w.old_serial p.old_serial) r)) in
    record { fit = s.fit; wide = omega (arith, s.wide) }

room_reference : (q : ReferenceV) → ReferenceFits q → {V : Type 0} {c : Codec V} {v : V} {n : ℕ} → Room c v n → Room (seq identifier (seq old_serial c)) (q.identifier, (q.serial, v)) (6 + n)
room_reference q p r =
    let s = room_seq (room_number 14 q.identifier p.identifier) (room_seq (room_number 2 q.serial p.serial) r) in
    record { fit = s.fit; wide = omega (arith, s.wide) }

pub write_spelt : (w : WriteReplaceV) (bs es fs : List Entry) → WriteFits w → Begun bs → Completed es → Failed fs → Spelt (write_reply w bs es fs)
write_spelt w bs es [] p b e f =
    let r = room_write w p (room_done w.channel es bs e b) in
    spelt_from (write_reply w bs es []) r.fit (omega (arith, r.wide))
write_spelt w bs es (x ∷ fs) p b e f =
    let r = room_write w p (room_seq (f (omega arith)) (room_done w.channel es bs e b)) in
    spelt_from (write_reply w bs es (x ∷ fs)) r.fit (omega (arith, r.wide))

pub kill_spelt : (q : ReferenceV) (es fs : List Entry) → ReferenceFits q → Completed es → Failed fs → Spelt (kill_reply q es fs)
kill_spelt q es [] p e f =
    let r = room_reference q p (room_done q.channel es [] e (λ l. absurd (omega arith))) in
    spelt_from (kill_reply q es []) r.fit (omega (arith, r.wide))
kill_spelt q es (x ∷ fs) p e f =
    let r = room_reference q p (room_seq (f (omega arith)) (room_done q.channel es [] e (λ l. absurd (omega arith)))) in
    spelt_from (kill_reply q es (x ∷ fs)) r.fit (omega (arith, r.wide))

-- where none failed, a query's reply has a count and a reset's a cell
pub query_spelt : (q : ReferenceV) (es fs : List Entry) → ReferenceFits q → Completed es → Failed fs → (length fs ≡ 0 → 1 ≤ length es) → Spelt (query_reply q es fs)
query_spelt q es [] p e f some =
    let r = room_reference q p (room_seq (e (some refl)) (room_channel q.channel)) in
    spelt_from (query_reply q es []) r.fit (omega (arith, r.wide))
query_spelt q es (x ∷ fs) p e f some =
    let r = room_reference q p (room_seq (f (omega arith)) (room_seq (room_channel q.channel) (may_list completed_kind 8 452 es e))) in
    spelt_from (query_reply q es (x ∷ fs)) r.fit (omega (arith, r.wide))

pub reset_spelt : (bs fs : List Entry) → Begun bs → Failed fs → (length fs ≡ 0 → 1 ≤ length bs) → Spelt (reset_reply bs fs)
reset_spelt bs [] b f some =
    let r = room_cells 260 bs (b (some refl)) in
    spelt_from (reset_reply bs []) r.fit (omega (arith, r.wide))
reset_spelt bs (x ∷ fs) b f some =
    let r = room_seq (f (omega arith)) (may_cells_lem 260 bs b) in
    spelt_from (reset_reply bs (x ∷ fs)) r.fit (omega (arith, r.wide))
