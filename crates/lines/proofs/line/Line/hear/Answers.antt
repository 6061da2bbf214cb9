use Rattle.std.proofs.Common.{[]}
use Rattle.lines.proofs.Splitting.{ends_all, ends_none}
use Rattle.lines.proofs.line.Line.hear.Goals as goal

pub returns-then-ends_line-clause-byte : goal.returns-then-ends_line-clause-byte
returns-then-ends_line-clause-byte c past h = (ends_all _ (c.if-ends_line.ensures.goes_on []), h, c.clear.ensures.heard)

pub returns-else-ends_line-clause-byte : goal.returns-else-ends_line-clause-byte
returns-else-ends_line-clause-byte c past h = (ends_none _ (c.if-ends_line.ensures.goes_on []), c.push.ensures.heard past h)
