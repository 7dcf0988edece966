-- A call that answers by the rules is a step of a run.
use Rattle.std.proofs.Common.{◌≡◌, ℕ, ◌+◌, Bool, true, List, length, take, drop, Some, None, Ok, Err, Option, Result, sym, refl, ap, ◌∙◌, arith}
use Rattle.std.proofs.lemmas.List.{drop_at}
use Rattle.std.proofs.Math.Seq.{take-append_seam}
use Rattle.cbsp.specs.declared.refusal.Refusal.{Refusal}
use Rattle.cbsp.specs.Octets.{put}
use Rattle.elements.specs.declared.faults.Fault.{Fault}
use Rattle.elements.specs.Octets.{Octets}
use Rattle.requests.specs.Requests.{RequestV, write_replace, kill, status_query, reset, keep_alive, read_request}
use Rattle.site.specs.Model.{Model}
use Rattle.site.specs.Events.{Event}
use Rattle.law.specs.State.{State}
use Rattle.law.specs.Calls.{Call, Reaction, answered, octets_of, reaction, refusal_of}
use Rattle.law.specs.Calls.Call.{opening, announcing, messaging, period, losing, returning, shutting}
use Rattle.law.specs.Steps.{Acts, Link, Moment, Reacts, SiteMoves, World, is_linked, links_after, octets_in}
use Rattle.controller.specs.declared.state.message.Answered.{Answered}
use Rattle.controller.specs.declared.world.Report.TheVariants.{Done, Refused}
use Rattle.controller.specs.Answers.{Accepted, Reacted}
use Rattle.controller.specs.Moments.{Stepped, fault_in, fault_of, moment, went_in}

-- what is sent is what stands at the start of the space
at_start : (xs was is : List ℕ) (n : ℕ) → n ≡ length xs → is ≡ put xs 0 was → take n is ≡ xs
at_start xs was is n e o = rw (e, o) (take-append_seam xs (drop (0 + length xs) was))

-- the octets behind what is sent stay
stays_behind : (xs was is : List ℕ) (n : ℕ) → n ≡ length xs → is ≡ put xs 0 was → drop n is ≡ drop n was
stays_behind xs was is n e o =
    let z : 0 + length xs ≡ length xs = omega arith in
    rw (e, o) (drop_at xs (drop (0 + length xs) was) (length xs) refl ∙ ap (λ i. drop i was) z)

pub reacted_behind : (r : Reaction) (n : ℕ) (t : State) (was is : List ℕ) → Reacted r n t was is → drop n is ≡ drop n was
reacted_behind r n t was is h = stays_behind (octets_of r.reply) was is n h.len h.octets

read_fault : (t : State) (o : ℕ → Bool) (r : Result RequestV Fault) → (answered t o r).fault ≡ fault_in r
read_fault t o (Err f) = refl
read_fault t o (Ok (write_replace w)) = refl
read_fault t o (Ok (kill r)) = refl
read_fault t o (Ok (status_query r)) = refl
read_fault t o (Ok (reset list)) = refl
read_fault t o (Ok (keep_alive code)) = refl

pub fault_is : (c : Call) (t : State) (o : ℕ → Bool) → (reaction c t o).fault ≡ fault_of c
fault_is opening t o = refl
fault_is (announcing n space) t o = refl
fault_is (messaging n octets marks space) t o = read_fault t o (read_request octets)
fault_is period t o = refl
fault_is (losing n k space) t o = refl
fault_is (returning n k recovery space) t o = refl
fault_is (shutting n) t o = refl

told_done : (a : Answered) (n : ℕ) (f : Option Fault) → n ≡ a.len → a.fault ≡ f → Done a ≡ Done (record { len = n; fault = f })
told_done a n f e q = rw (e, ← q) refl

module _ {S : Type 0} (model : S → Model) (steps : S → Event → S → Type 0) where
  -- an accepted call that is no period, which is told by its own relation
  acts_of :
      (c : Call) (m : Moment) (w v : World S) → went_in c w.table v.table ≡ None → Reacts model steps c w.table w.site v.table v.site m.sent
      → m.went ≡ went_in c w.table v.table → Acts model steps c m w v
  acts_of opening m w v p r e = (r, e)
  acts_of (announcing n space) m w v p r e = (r, e)
  acts_of (messaging n octets marks space) m w v p r e = (r, e)
  acts_of period m w v p r e = absurd cc
  acts_of (losing n k space) m w v p r e = (r, e)
  acts_of (returning n k recovery space) m w v p r e = (r, e)
  acts_of (shutting n) m w v p r e = (r, e)

  -- what was sent stands at the start of the space that was lent, be it none
  pub done_step :
      (c : Call) (w v : World S) (a : Answered) (was lent is : List ℕ) → take a.len is ≡ take a.len lent → went_in c w.table v.table ≡ None
      → Octets (octets_in c) → is_linked c w.links ≡ true → Accepted c (model w.site).opened w.table v.table was lent a.len a.fault
      → SiteMoves model steps c w.site v.site → v.links ≡ links_after c w.table w.links → Stepped model steps c w v (Done a) is
  done_step c w v a was lent is same p os l h moves links =
      let sent : take a.len is ≡ octets_of (reaction c w.table (model w.site).opened).reply
      = same ∙ at_start _ was lent a.len h.reacted.len h.reacted.octets in
      let reacts : Reacts model steps c w.table w.site v.table v.site (take a.len is) = record { table = h.reacted.table; sends = sent; site = moves } in
      record {
        step =
            record {
              octets = os;
              before = refl;
              after = refl;
              answers = rw (l, h.reason) refl;
              came = (acts_of c (moment model steps c w v (Done a) is) w v p reacts refl, links);
            };
        told =
            told_done a (length (take a.len is)) (fault_of c) (ap length sent ∙ sym h.reacted.len)
            (h.fault ∙ fault_is c w.table (model w.site).opened);
      }

  -- nothing was changed and nothing sent
  pub refused_step :
      (c : Call) (w v : World S) (r : Refusal) (is : List ℕ) → Octets (octets_in c) → is_linked c w.links ≡ true
      → refusal_of c w.table (model w.site).opened ≡ Some r → v ≡ w → Stepped model steps c w v (Refused r) is
  refused_step c w v r is os l h e =
      record {
        step =
            record {
              octets = os;
              before = refl;
              after = refl;
              answers = rw (l, h) refl;
              came = record { world = e; sent = refl; went = refl };
            };
        told = refl;
      }

pub same_world : {S : Type 0} (w : World S) (t : State) (ls : List Link) → t ≡ w.table → ls ≡ w.links → record { table = t; site = w.site; links = ls } ≡ w
same_world w t ls e f = rw (e, f) refl
