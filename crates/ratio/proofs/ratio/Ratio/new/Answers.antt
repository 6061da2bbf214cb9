use Rattle.std.proofs.Common.{◌≡◌, ◌≢◌, ℕ, ◌<◌, ◌≤◌, length, Err, sym, subst, arith, rules}
use Rattle.ratio.specs.Products.{numerator, denominator}
use Rattle.ratio.specs.Entry.{PartsFit, Quotient, Entered}
use Rattle.ratio.specs.declared.fault.RatioFault.TheVariants.{PrimeLeft}
use Rattle.ratio.proofs.Entered.{entered_once}
use Rattle.ratio.proofs.Computed.{entry_is}
use Rattle.ratio.proofs.Lowest.{minus_six, rests_same, quotient_is, numerator_less, denominator_less}
use Rattle.ratio.proofs.Factoring.{Factored}
use Rattle.ratio.proofs.ratio.Ratio.new.Goals as goal
use Rattle.ratio.proofs.ratio.Ratio.new.Goals.{After-of-below}

parts_fit : {n d : ℕ} → 0 < n → 0 < d → n ≤ 4294967295 → d ≤ 4294967295 → PartsFit n d
parts_fit a b p q = record { numerator_some = a; denominator_some = b; numerator_small = p; denominator_small = q }

-- both numbers by their multiplicities and rests
taken_apart : (c : After-of-below) → Factored c.args.numerator c.of-above.result.multiplicities c.of-above.result.rest × Factored c.args.denominator c.of-below.result.multiplicities c.of-below.result.rest
taken_apart c = (
  record { six = search rules; parts = c.of-above.ensures; left = c.of-above.result.left },
  record { six = search rules; parts = c.of-below.ensures; left = c.of-below.result.left },
)

pub returns-then-above-below : goal.returns-then-above-below
returns-then-above-below c =
    let n = c.args.numerator in
    let d = c.args.denominator in
    let apart : c.of-above.result.rest ≢ c.of-below.result.rest = search rules in
    let both = taken_apart (goal.at.returns-then-above-below c).After-of-below in
    let left : Entered n d (Err PrimeLeft) = (
      parts_fit (omega arith) (omega arith) (omega arith) (omega arith),
      λ e six q. apart (rests_same n d _ _ _ _ both.0 both.1 e six q),
    ) in
    record { entered = left; only = λ s h. entered_once n d s (Err PrimeLeft) h left; value = entry_is n d (Err PrimeLeft) left }

-- It stands before the invariant, since a wrong body is told of at the first answer that fails.
pub returns : goal.returns
returns c =
    let n = c.args.numerator in
    let d = c.args.denominator in
    let both = taken_apart (goal.at.returns c).After-of-below in
    let fair : PartsFit n d = parts_fit (omega arith) (omega arith) (omega arith) (omega arith) in
    let quotient = subst (Quotient n d) (sym c.minus.ensures) (quotient_is n d _ _ _ _ both.0 both.1 c.if-above-below.false) in
    record { entered = (fair, quotient); only = λ s h. entered_once n d s _ h (fair, quotient); value = entry_is n d _ (fair, quotient) }

pub invariant_of-result : goal.invariant_of-result
invariant_of-result c =
    let n = c.args.numerator in
    let d = c.args.denominator in
    let both = taken_apart (goal.at.invariant_of-result c).After-of-below in
    let is = sym c.minus.ensures in
    let up_to : numerator c.minus.result ≤ n = subst (λ e. numerator e ≤ n) is (numerator_less n d _ _ _ _ both.0 both.1) in
    let down_to : denominator c.minus.result ≤ d = subst (λ e. denominator e ≤ d) is (denominator_less n d _ _ _ _ both.0 both.1) in
    record { six = subst (λ e. length e ≡ 6) is (minus_six n d _ _ _ _ both.0 both.1); numerator_fits = omega arith; denominator_fits = omega arith }
