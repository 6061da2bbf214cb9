use Rattle.interval.proofs.Following.{answered_on}
use Rattle.lines.specs.Splitting.{open_line}
use Rattle.interval.proofs.table.Table.hear.Goals as goal

pub returns : goal.returns
returns c = record {
  followed = λ past said f.
      record {
        heard = c.hear.ensures.heard past f.heard;
        answered = answered_on c.hear.result c.map.result (open_line past) _ _ said c.map.ensures.cases (c.hear.ensures.tells past f.heard) f.answered;
      };
}
