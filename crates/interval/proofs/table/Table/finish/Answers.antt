use Rattle.interval.proofs.Following.{answered_on}
use Rattle.lines.specs.Splitting.{open_line}
use Rattle.interval.proofs.table.Table.finish.Goals as goal

pub returns : goal.returns
returns c = record {
  answered = λ past said f. answered_on c.finish.result c.map.result (open_line past) _ _ said c.map.ensures.cases (c.finish.ensures.tells past f.heard) f.answered;
}
