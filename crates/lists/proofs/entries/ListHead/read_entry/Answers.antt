use Rattle.std.proofs.Common.{◌≡◌, ◌+◌, Err, ◌∙◌, sym, refl, ap, arith, rules}
use Rattle.std.proofs.lemmas.Result.{MatchResult-weaker, err_from_is_err_and}
use Rattle.lists.proofs.Steps.{entry_made}
use Rattle.lists.proofs.entries.ListHead.read_entry.Goals as goal

pub returns-clause-value : goal.returns-clause-value
returns-clause-value g c =
    let f = c.in_ok-form.ensures.value in
    let n = c.in_ok-cell.ensures.value in
    entry_made g.E.ListEntry.kind c.args.self.broken _ c.args.reader.now.octets.now c.read_form.new.reader.octets.now c.read_cell.new.reader.octets.now _ _ _ _ _ c.TAIL-2.result
    (ap (λ r. r.now) f.1) (ap (λ r. r.now) n.1) f.0 n.0 (c.TAIL-2.ensures ∙ sym g.met.E.ListEntry.stated.tail_is) (omega arith)
    g.E.ListEntry.meant c.make.result c.map_err.result c.args.reader.now (record { octets = c.read_cell.new.reader.octets; at = c.read_cell.new.reader.at + c.TAIL-2.result }) c.make.ensures
    (MatchResult-weaker c.make.result c.map_err.ensures.cases (λ e p. p)
    (λ d p. let q = err_from_is_err_and c.map_err.result p in let x : q.0 ≡ record { place = c.read_cell.new.reader.at + d.index } = search rules in q.1 ∙ ap Err x)) (n.1 ∙ f.1) refl
