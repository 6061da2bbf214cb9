use Rattle.std.proofs.Common.{Ok, Err, sym, ap, ◌∙◌, subst, arith, rules}
use Rattle.std.proofs.lemmas.Result.{err_from_is_err_and}
use Rattle.interval.specs.declared.fault.LineFault.TheVariants.{TooLong, NoRatioWord}
use Rattle.interval.specs.Naming.{Named}
use Rattle.interval.proofs.Naming.{named_so}
use Rattle.interval.proofs.name.named.Goals as goal

pub returns-then-line-gt-LONGEST_LINE : goal.returns-then-line-gt-LONGEST_LINE
returns-then-line-gt-LONGEST_LINE c =
    named_so c.args.line.now (Err TooLong) (search rules)

pub returns-in_default : goal.returns-in_default
returns-in_default c =
    named_so c.args.line.now (Err NoRatioWord) (omega arith, c.in_default.ensures.form)

-- It stands before the answer for a refusal, since a wrong body is told of at the first answer that fails.
pub returns : goal.returns
returns c =
    named_so c.args.line.now (Ok c.in_ok-new.field-0) (record {
      parts = (c.in-Some.numerator, c.in-Some.denominator);
      short = omega arith;
      read = c.in-Some.ensures.form;
      entered = c.in_ok-new.ensures.entered;
    })

pub returns-in_err-new : goal.returns-in_err-new
returns-in_err-new c =
    let line = c.args.line.now in
    let p = err_from_is_err_and c.from_residual.result c.from_residual.ensures.1 in
    let is = p.1 ∙ ap Err p.2 in
    let names : Named line c.from_residual.result = subst (Named line) (sym is) (record {
      parts = (c.in-Some.numerator, c.in-Some.denominator);
      short = omega arith;
      read = c.in-Some.ensures.form;
      entered = c.in_err-new.ensures.entered;
    }) in
    named_so line c.from_residual.result names
