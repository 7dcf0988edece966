use Rattle.std.proofs.Common.{Some, None, sym}
use Rattle.table.proofs.Searching.{looked_none, looked_some, moved}
use Rattle.table.proofs.pool.Search.is_used.Goals as goal

pub returns-in_default-clause-value : goal.returns-in_default-clause-value
returns-in_default-clause-value c = sym (looked_none c.args.cells.now c.args.self.now.passed c.requires.passed c.args.slot _ c.from-place.ensures c.in_default.ensures.value)

pub returns-clause-value : goal.returns-clause-value
returns-clause-value c = sym (looked_some c.args.cells.now c.args.self.now.passed c.requires.passed c.args.slot _ c.in-Some.further c.from-place.ensures c.in-Some.ensures.value).0

pub returns-clause-passed : goal.returns-clause-passed
returns-clause-passed c = (looked_some c.args.cells.now c.args.self.now.passed c.requires.passed c.args.slot _ c.in-Some.further c.from-place.ensures c.in-Some.ensures.value).1

pub returns-in_default-clause-moved : goal.returns-in_default-clause-moved
returns-in_default-clause-moved c = moved c.args.cells.now c.args.self.now.passed c.requires.passed c.args.slot _ c.from-place.ensures None c.in_default.ensures.value

pub returns-clause-moved : goal.returns-clause-moved
returns-clause-moved c = moved c.args.cells.now c.args.self.now.passed c.requires.passed c.args.slot _ c.from-place.ensures (Some c.in-Some.further) c.in-Some.ensures.value
