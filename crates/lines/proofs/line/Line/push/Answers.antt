use Rattle.lines.proofs.Hearing.{heard_more}
use Rattle.lines.proofs.line.Line.push.Goals as goal

pub returns : goal.returns
returns c = record { heard = λ past heard. heard_more c.push.result c.args.self.now.bytes c.push.new.self past c.args.byte c.push.ensures.cases heard }
