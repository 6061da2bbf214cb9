use Rattle.lines.proofs.Splitting.{ended_push, open_push, split}
use Rattle.lines.proofs.split.ends_line.Goals as goal

pub returns : goal.returns
returns c = record {
  ends = λ past. ended_push past c.args.byte;
  goes_on = λ past. open_push past c.args.byte;
  splits = split;
}
