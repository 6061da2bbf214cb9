-- Two ratios with the same exponents are the same.
use Rattle.std.proofs.Common.{◌≡◌}
use std.HLevel.{prop→path_p}
use denote.Struct.Props.{props}
use Rattle.ratio.specs.declared.ratio.Ratio.{Ratio, six-type, numerator_fits-type, denominator_fits-type}

pub same_ratio : (a b : Ratio) → a.exponents ≡ b.exponents → a ≡ b
same_ratio a b e =
    let six = prop→path_p (λ i. six-type (e i)) (hlevel props) a.six b.six in
    let above = prop→path_p (λ i. numerator_fits-type (e i) (six i)) (hlevel props) a.numerator_fits b.numerator_fits in
    λ i.
    record {
      exponents = e i;
      six = six i;
      numerator_fits = above i;
      denominator_fits = prop→path_p (λ j. denominator_fits-type (e j) (six j) (above j)) (hlevel props) a.denominator_fits b.denominator_fits i;
    }
