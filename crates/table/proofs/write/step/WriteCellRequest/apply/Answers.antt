use Rattle.std.proofs.Common.{List, map, Ok, Err, Option, ap, ◌∙◌}
use Rattle.elements.specs.declared.cause.Cause.{Cause}
use Rattle.rows.specs.declared.row.Row.{Row}
use Rattle.rows.specs.Held.{rows_of}
use Rattle.table.specs.Outcomes.{outcome}
use Rattle.table.specs.Settings.{Setting, setting}
use Rattle.table.specs.AtCell.{rows_at}
use Rattle.table.specs.Write.{bar, barred, cut, unless}
use Rattle.table.proofs.Searching.{cut_holds, fewer_fit}
use Rattle.table.proofs.Writing.{cause_of, stopped, went_on}
use Rattle.table.proofs.write.step.WriteCellRequest.apply.Goals as goal

pub returns-in-Err : goal.returns-in-Err
returns-in-Err c =
    let w = c.args.self.now in
    let s : Setting = setting (map rows_of c.args.rows.now) c.args.cell c.args.capability c.args.opened in
    let answered = c.in-Err.ensures ∙ ap (λ (rs : List Row). unless (barred w.asked c.args.capability c.args.opened rs) tt) c.rows_at.ensures in
    let r = stopped w s c.in-Err.cause (cause_of (bar w s) (Err c.in-Err.cause) answered) in
    record { answer = r.answer; leaves = r.leaves; becomes = r.becomes; passed = c.requires.passed }

pub returns : goal.returns
returns c =
    let w = c.args.self.now in
    let s : Setting = setting (map rows_of c.args.rows.now) c.args.cell c.args.capability c.args.opened in
    let answered = c.in_default.ensures ∙ ap (λ (rs : List Row). unless (barred w.asked c.args.capability c.args.opened rs) tt) c.rows_at.ensures in
    let r =
    went_on w s (map rows_of c.end_old-ended.new.rows) (map rows_of c.begin.new.rows) c.end_old-ended.result c.begin.new.slot c.begin.result
    (cause_of (bar w s) (Ok c.in_default.field-0) answered)
    c.end_old-ended.ensures.value c.end_old-ended.ensures.after c.begin.ensures.answer c.begin.ensures.rows
    c.begin.ensures.slot in
    record {
      answer = ap (λ (o : Option Cause). outcome s.cell c.end_old-ended.result o) c.err-cause.ensures.value ∙ r.answer;
      leaves = r.leaves;
      becomes = r.becomes;
      passed = c.begin.ensures.passed;
    }

pub begin-requires-clause-passed : goal.begin-requires-clause-passed
begin-requires-clause-passed c =
    let q = c.args.self.now.asked in
    let here = rows_at c.args.rows.now c.args.cell in
    rw c.end_old-ended.ensures.after
    (fewer_fit c.args.search.now.passed (map rows_of c.args.rows.now) c.requires.passed c.args.cell (cut q q.old here) (λ s h. cut_holds q q.old here s h))
