use Rattle.std.proofs.Common.{◌∙◌, length-set}
use Rattle.ratio.specs.Parts.{octaveless}
use Rattle.ratio.proofs.ratio.Ratio.without_octaves.Goals as goal

pub invariant_of-result : goal.invariant_of-result
unfolding octaveless
invariant_of-result c =
    let r = c.args.self.now in
    let left = octaveless r in
    record { six = length-set _ _ _ ∙ r.six; numerator_fits = left.numerator_fits; denominator_fits = left.denominator_fits }
