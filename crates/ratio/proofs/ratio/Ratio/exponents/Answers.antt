use Rattle.std.proofs.Common.{refl}
use Rattle.ratio.proofs.Limits.{ratio_within}
use Rattle.ratio.proofs.ratio.Ratio.exponents.Goals as goal

pub returns : goal.returns
returns c = record { held = refl; limited = ratio_within c.args.self.now }
