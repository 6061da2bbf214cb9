use Rattle.std.proofs.Common.{ap}
use Rattle.std.specs.Cmp.{signed_Decides}
use Rattle.std.proofs.lemmas.Slice.Eq.{slice_eq-Decides}
use Rattle.ratio.proofs.Same.{same_ratio}
use Rattle.ratio.proofs.equality.RatioPartialEq.eq.Goals as goal

pub returns-clause-equals : goal.returns-clause-equals
returns-clause-equals c =
    let decides = slice_eq-Decides signed_Decides _ _ _ c.eq.ensures in
    (λ h. same_ratio _ _ (decides.0 h), λ same. decides.1 (ap (λ r. r.exponents) same))
