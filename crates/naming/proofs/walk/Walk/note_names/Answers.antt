use Rattle.std.proofs.Common.{◌+◌, fold, sym, ap, ◌∙◌}
use Rattle.naming.specs.Namings.{is_some, noted}
use Rattle.naming.specs.Walks.{behind, stage_of}
use Rattle.naming.proofs.Alone.{named_alone, next_behind}
use Rattle.naming.proofs.walk.Walk.note_names.Goals as goal

pub returns : goal.returns
returns c =
    let next = c.args.self.now.next in
    let alone = named_alone c.args.cells.now c.requires.apart next c.args.identity (sym c.if-not-is_next.ensures) in
    record {
      found = ap is_some (sym alone);
      noted = c.note.ensures.noted ∙ ap (fold noted (stage_of c.args.self.now)) (sym alone);
      next = ap (λ n. n + 1) c.note.ensures.next ∙ sym (next_behind c.args.cells.now next c.args.identity (sym c.if-not-is_next.ensures)) ∙ ap (behind c.args.identity next) (sym alone);
      same = c.note.ensures.same;
    }
