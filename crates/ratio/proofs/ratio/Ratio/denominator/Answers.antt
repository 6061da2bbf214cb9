use Rattle.std.proofs.Common.{◌≡◌, sym, ap, ◌∙◌}
use Rattle.ratio.specs.Products.{numerator, denominator}
use Rattle.ratio.proofs.Coprime.{no_common}
use Rattle.ratio.proofs.Terms.{numerator_neg}
use Rattle.ratio.proofs.ratio.Ratio.denominator.Goals as goal

pub returns : goal.returns
returns c =
    let r = c.args.self.now in
    let is : c.numerator.result ≡ denominator r.exponents = c.numerator.ensures ∙ (ap numerator c.recip.ensures ∙ numerator_neg r.exponents) in
    record { value = is; lowest = λ k x y n d. no_common r.exponents r.six k x y n (sym is ∙ d) }
