use Rattle.std.proofs.Common.{arith}
use Rattle.std.proofs.Math.Nat.{one-le-pow}
use Rattle.lines.proofs.Decimals.{decimals_written}
use Rattle.lines.proofs.fixed.DecimalsDisplay.fmt.Goals as goal

pub nonzero_div-self : goal.nonzero_div-self
nonzero_div-self g c = omega (arith, one-le-pow g.row.PLACES 10 (omega arith))

pub nonzero_rem-self : goal.nonzero_rem-self
nonzero_rem-self g c = omega (arith, one-le-pow g.row.PLACES 10 (omega arith))

pub returns-clause-writes : goal.returns-clause-writes
returns-clause-writes g c = λ plain ok.
    let text = rw (c.laid_out.ensures, c.pow-whole.ensures) at (c.write.ensures.writes plain ok) in
    let shown = decimals_written g.row.PLACES c.args.self.now.parts (omega arith) (omega arith) in
    rw shown at text
