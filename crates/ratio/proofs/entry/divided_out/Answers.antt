use Rattle.ratio.proofs.Multiplicities.{few_times}
use Rattle.ratio.proofs.entry.divided_out.Goals as goal

pub returns-clause-few : goal.returns-clause-few
returns-clause-few c = few_times c.loop-rest.times c.loop-rest.rest c.args.number c.loop-rest.invariant.1 c.loop-rest.invariant.2 c.requires.1
