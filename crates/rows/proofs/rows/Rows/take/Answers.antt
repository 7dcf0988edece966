use Rattle.std.proofs.Common.{Some, sym, ap, ◌∙◌, rules}
use Rattle.rows.specs.Keys.{is_same, place_of}
use Rattle.rows.proofs.Places.{found_at, missing}
use Rattle.rows.proofs.rows.Rows.take.Goals as goal

pub returns : goal.returns
returns c =
    let p = ap (place_of (is_same c.args.key)) (sym c.as_slice.ensures.value) ∙ sym c.in_ok-place.ensures.place in
    let f = found_at (is_same c.args.key) c.args.self.now.rows c.remove.result c.in_ok-place.place p in
    record { value = ap Some c.remove.ensures.value ∙ sym f.first; after = c.remove.ensures.after ∙ f.rest }

pub returns-in_err-place : goal.returns-in_err-place
returns-in_err-place c =
    let p = ap (place_of (is_same c.args.key)) (sym c.as_slice.ensures.value) ∙ sym c.in_err-place.ensures.place in
    let m = missing (is_same c.args.key) c.args.self.now.rows 0 p in
    record { value = search (rules, m.0); after = sym m.1 }
