use Rattle.std.proofs.Common.{length}
use Rattle.settling.proofs.Runs.{Begun}
use Rattle.settling.specs.Posed.{meant}
use Rattle.settling.proofs.yardstick.Yardstick.replay.Given as goal

abbrev pub invariant-loop-number : goal.invariant-loop-number
invariant-loop-number g l = Begun (g.M.Measure.dist l.self.measure.now) (meant g.C.Costing) (length l.initial.stack) l.steps l.initial.entries l.initial.sheet l.number l.entries l.sheet l.draft
