-- The five requests: what they hold, and their elements in order.
use Rattle.std.specs.Prelude.{◌≡◌, ℕ, ◌≤◌, Bool, true, List, ◌++◌, length, take, Some, None, Ok, Err, Option, Result, slice_index}
use Rattle.cbsp.specs.declared.channel.Channel.{Channel}
use Rattle.cbsp.specs.declared.message_type.MessageType.{MessageType}
use Rattle.cbsp.specs.declared.message_type.MessageType.TheVariants as type
use Rattle.cbsp.specs.Types.{type_code, type_of}
use Rattle.elements.specs.declared.category.Category.{Category}
use Rattle.elements.specs.declared.faults.Fault.{Fault}
use Rattle.elements.specs.Faults.{unrecognised}
use Rattle.elements.specs.Octets.{Octets}
use Rattle.elements.specs.Codec.{Codec, seq, via, channel}
use Rattle.elements.specs.Parts.{identifier, new_serial, may_old_serial, old_serial, category, repetition_period, broadcasts_requested, number_of_pages, coding_scheme, keep_alive_period}
use Rattle.elements.specs.Whole.{read_whole, headed, taken}
use Rattle.lists.specs.CellLists.{CellsV, cells_meant}
use Rattle.lists.specs.Parts.{cells}
use Rattle.pages.specs.declared.page.Page.{Page}
use Rattle.pages.specs.Pages.{page, repeated, pages_meant}
use Rattle.requests.specs.declared.request.WriteReplace.{WriteReplace}
use Rattle.requests.specs.declared.request.Reference.{Reference}
use Rattle.requests.specs.declared.request.Reset.{Reset}
use Rattle.requests.specs.declared.request.KeepAlive.{KeepAlive}
use Rattle.requests.specs.declared.request.Request.{Request}
use Rattle.requests.specs.declared.request.Request.TheVariants as is

pub record WriteReplaceV : Type 0 where
  pub identifier : ℕ
  pub new_serial : ℕ
  pub old_serial : Option ℕ
  pub cells : CellsV
  pub channel : Channel
  pub category : Category
  pub period : ℕ
  pub broadcasts : ℕ
  pub coding : ℕ
  pub pages : List Page

-- a message in some cells
pub record ReferenceV : Type 0 where
  pub identifier : ℕ
  pub serial : ℕ
  pub cells : CellsV
  pub channel : Channel

pub data RequestV : Type 0 where
  write_replace : WriteReplaceV → RequestV
  kill : ReferenceV → RequestV
  status_query : ReferenceV → RequestV
  reset : CellsV → RequestV
  keep_alive : ℕ → RequestV

-- WRITE-REPLACE: Message Identifier, New Serial Number, Old Serial Number if one is replaced, Cell List, Channel Indicator,
-- Category, Repetition Period, Number of Broadcasts Requested, Number of Pages, Data Coding Scheme, so many Message Contents
abbrev pub WriteElements : Type 0
WriteElements = ℕ × (ℕ × (Option ℕ × (CellsV × (Channel × (Category × (ℕ × (ℕ × (ℕ × List Page))))))))

abbrev pub write_elements : Codec WriteElements
write_elements =
    seq identifier (seq new_serial (seq may_old_serial (seq cells (seq channel (seq category (seq repetition_period (seq broadcasts_requested (repeated number_of_pages coding_scheme page))))))))

abbrev pub write_to : WriteElements → WriteReplaceV
write_to v = record {
  identifier = v.0;
  new_serial = v.1.0;
  old_serial = v.1.1.0;
  cells = v.1.1.1.0;
  channel = v.1.1.1.1.0;
  category = v.1.1.1.1.1.0;
  period = v.1.1.1.1.1.1.0;
  broadcasts = v.1.1.1.1.1.1.1.0;
  coding = v.1.1.1.1.1.1.1.1.0;
  pages = v.1.1.1.1.1.1.1.1.1;
}

abbrev pub write_from : WriteReplaceV → WriteElements
write_from w = (w.identifier, (w.new_serial, (w.old_serial, (w.cells, (w.channel, (w.category, (w.period, (w.broadcasts, (w.coding, w.pages)))))))))

abbrev pub writing : Codec WriteReplaceV
writing = via write_to write_from write_elements

-- KILL and MESSAGE STATUS QUERY: Message Identifier, Old Serial Number, Cell List, Channel Indicator
abbrev pub ReferenceElements : Type 0
ReferenceElements = ℕ × (ℕ × (CellsV × Channel))

abbrev pub reference_elements : Codec ReferenceElements
reference_elements = seq identifier (seq old_serial (seq cells channel))

abbrev pub reference_to : ReferenceElements → ReferenceV
reference_to v = record { identifier = v.0; serial = v.1.0; cells = v.1.1.0; channel = v.1.1.1 }

abbrev pub reference_from : ReferenceV → ReferenceElements
reference_from r = (r.identifier, (r.serial, (r.cells, r.channel)))

abbrev pub reference : Codec ReferenceV
reference = via reference_to reference_from reference_elements

-- what the program's values mean
abbrev pub write_meant : WriteReplace → WriteReplaceV
write_meant w = record {
  identifier = w.identifier;
  new_serial = w.new_serial;
  old_serial = w.old_serial;
  cells = cells_meant w.cells;
  channel = w.channel;
  category = w.category;
  period = w.period;
  broadcasts = w.broadcasts;
  coding = w.coding;
  pages = pages_meant w.pages;
}

abbrev pub reference_meant : Reference → ReferenceV
reference_meant r = record { identifier = r.identifier; serial = r.serial; cells = cells_meant r.cells; channel = r.channel }

abbrev pub reset_meant : Reset → CellsV
reset_meant r = cells_meant r.cells

abbrev pub keep_alive_meant : KeepAlive → ℕ
keep_alive_meant k = k.period

abbrev pub request_meant : Request → RequestV
request_meant (is.WriteReplace w) = write_replace (write_meant w)
request_meant (is.Kill r) = kill (reference_meant r)
request_meant (is.MessageStatusQuery r) = status_query (reference_meant r)
request_meant (is.Reset r) = reset (reset_meant r)
request_meant (is.KeepAlive k) = keep_alive (keep_alive_meant k)

-- a request of a type, read; another type is not recognised
abbrev pub read_request_of : Option MessageType → List ℕ → Result RequestV Fault
read_request_of (Some type.WriteReplace) os = taken write_replace (read_whole writing os)
read_request_of (Some type.Kill) os = taken kill (read_whole reference os)
read_request_of (Some type.MessageStatusQuery) os = taken status_query (read_whole reference os)
read_request_of (Some type.Reset) os = taken reset (read_whole cells os)
read_request_of (Some type.KeepAlive) os = taken keep_alive (read_whole keep_alive_period os)
read_request_of (Some type.WriteReplaceComplete) os = Err unrecognised
read_request_of (Some type.WriteReplaceFailure) os = Err unrecognised
read_request_of (Some type.KillComplete) os = Err unrecognised
read_request_of (Some type.KillFailure) os = Err unrecognised
read_request_of (Some type.LoadQuery) os = Err unrecognised
read_request_of (Some type.LoadQueryComplete) os = Err unrecognised
read_request_of (Some type.LoadQueryFailure) os = Err unrecognised
read_request_of (Some type.MessageStatusQueryComplete) os = Err unrecognised
read_request_of (Some type.MessageStatusQueryFailure) os = Err unrecognised
read_request_of (Some type.SetDrx) os = Err unrecognised
read_request_of (Some type.SetDrxComplete) os = Err unrecognised
read_request_of (Some type.SetDrxFailure) os = Err unrecognised
read_request_of (Some type.ResetComplete) os = Err unrecognised
read_request_of (Some type.ResetFailure) os = Err unrecognised
read_request_of (Some type.Restart) os = Err unrecognised
read_request_of (Some type.Failure) os = Err unrecognised
read_request_of (Some type.ErrorIndication) os = Err unrecognised
read_request_of (Some type.KeepAliveComplete) os = Err unrecognised
read_request_of None os = Err unrecognised

abbrev pub read_request : List ℕ → Result RequestV Fault
read_request os = read_request_of (type_of (slice_index os 0)) os

-- how a request is spelt, and which can be
abbrev pub request_type : RequestV → MessageType
request_type (write_replace w) = type.WriteReplace
request_type (kill r) = type.Kill
request_type (status_query r) = type.MessageStatusQuery
request_type (reset c) = type.Reset
request_type (keep_alive n) = type.KeepAlive

abbrev pub spell_request : RequestV → List ℕ
spell_request (write_replace w) = writing.spell w
spell_request (kill r) = reference.spell r
spell_request (status_query r) = reference.spell r
spell_request (reset c) = cells.spell c
spell_request (keep_alive n) = keep_alive_period.spell n

abbrev pub request_fits : RequestV → Bool
request_fits (write_replace w) = writing.fits w
request_fits (kill r) = reference.fits r
request_fits (status_query r) = reference.fits r
request_fits (reset c) = cells.fits c
request_fits (keep_alive n) = keep_alive_period.fits n

-- a request that is read spells out to its octets after the header, and one that can be is read from its spelling
abbrev pub RequestsRoundTrip : Type 0
RequestsRoundTrip =
    ((os : List ℕ) (m : RequestV) → Octets os → 4 ≤ length os → read_request os ≡ Ok m
    → (os ≡ take 4 os ++ spell_request m) × (request_fits m ≡ true) × (type_of (slice_index os 0) ≡ Some (request_type m)))
    × ((m : RequestV) → request_fits m ≡ true → read_request (headed (type_code (request_type m)) (spell_request m)) ≡ Ok m)
