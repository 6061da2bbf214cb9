-- A line names one thing, and a printed ratio names itself. Assumes nothing.
use Rattle.std.proofs.Common.{◌≡◌, ℕ, ◌^◌, ◌<◌, List, ◌∷◌, Some, None, Ok, Err, decimal, Result, sym, refl, subst, arith, length-append}
use Rattle.std.proofs.lemmas.Fmt.{length-decimal-le}
use Rattle.ratio.specs.declared.ratio.Ratio.{Ratio}
use Rattle.ratio.specs.declared.fault.RatioFault.{RatioFault}
use Rattle.ratio.specs.Entry.{Entered}
use Rattle.ratio.specs.Printing.{ratio_text}
use Rattle.ratio.specs.Products.{numerator, denominator}
use Rattle.ratio.specs.Words.{PartsRead}
use Rattle.ratio.proofs.Entered.{entered_once, parts_entered}
use Rattle.ratio.proofs.Numerals.{parts_read_once, decimal_parts}
use Rattle.interval.specs.declared.fault.LineFault.{LineFault}
use Rattle.interval.specs.declared.fault.LineFault.TheVariants.{TooLong, NoRatioWord, Entry}
use Rattle.interval.specs.Naming.{WordEntered, Named}

word_once : (line : List ℕ) (r s : Result Ratio RatioFault) → WordEntered line r → WordEntered line s → r ≡ s
word_once line r s p q =
    let same : p.parts ≡ q.parts = cc (parts_read_once line (Some p.parts) (Some q.parts) p.read q.read) in
    entered_once p.parts.0 p.parts.1 r s p.entered (subst (λ x. Entered x.0 x.1 s) (sym same) q.entered)

never_both : {line : List ℕ} {r : Result Ratio RatioFault} → WordEntered line r → PartsRead line None → ⊥
never_both w none = let both = parts_read_once _ (Some w.parts) None w.read none in let z : ◌≡◌ {A = ℕ} 0 1 = cc in omega arith

pub named_once : (line : List ℕ) (r s : Result Ratio LineFault) → Named line r → Named line s → r ≡ s
named_once line (Ok a) (Ok b) p q = cc (word_once line (Ok a) (Ok b) p q)
named_once line (Ok a) (Err TooLong) p q = absurd (omega (arith, p.short))
named_once line (Ok a) (Err NoRatioWord) p q = absurd (never_both p q.1)
named_once line (Ok a) (Err (Entry g)) p q = let e = word_once line (Ok a) (Err g) p q in cc
named_once line (Err TooLong) (Ok b) p q = absurd (omega (arith, q.short))
named_once line (Err TooLong) (Err TooLong) p q = refl
named_once line (Err TooLong) (Err NoRatioWord) p q = absurd (omega (arith, q.0))
named_once line (Err TooLong) (Err (Entry g)) p q = absurd (omega (arith, q.short))
named_once line (Err NoRatioWord) (Ok b) p q = absurd (never_both q p.1)
named_once line (Err NoRatioWord) (Err TooLong) p q = absurd (omega (arith, p.0))
named_once line (Err NoRatioWord) (Err NoRatioWord) p q = refl
named_once line (Err NoRatioWord) (Err (Entry g)) p q = absurd (never_both q p.1)
named_once line (Err (Entry f)) (Ok b) p q = let e = word_once line (Err f) (Ok b) p q in cc
named_once line (Err (Entry f)) (Err TooLong) p q = absurd (omega (arith, p.short))
named_once line (Err (Entry f)) (Err NoRatioWord) p q = absurd (never_both p q.1)
named_once line (Err (Entry f)) (Err (Entry g)) p q = cc (word_once line (Err f) (Err g) p q)

pub text_named : (x : Ratio) → Named (ratio_text x) (Ok x)
text_named x =
    let n : ℕ = numerator x.exponents in
    let d : ℕ = denominator x.exponents in
    let n_small : n < 10 ^ 10 = omega (arith, x.numerator_fits) in
    let d_small : d < 10 ^ 10 = omega (arith, x.denominator_fits) in
    let n_short = length-decimal-le 10 n (omega arith) n_small (omega arith) in
    let d_short = length-decimal-le 10 d (omega arith) d_small (omega arith) in
    record {
      parts = (n, d);
      short = omega (arith, length-append (decimal n) (47 ∷ decimal d));
      read = decimal_parts n d n_small d_small;
      entered = parts_entered x;
    }

-- so what a line names is the only thing that it names, and a printed ratio is named by its text
pub named_so : (line : List ℕ) (r : Result Ratio LineFault) → Named line r
    → record { names : Named line r; only : (s : Result Ratio LineFault) → Named line s → s ≡ r; again : (x : Ratio) → line ≡ ratio_text x → r ≡ Ok x }
named_so line r p = record {
  names = p;
  only = λ s q. named_once line s r q p;
  again = λ x e. named_once line r (Ok x) p (subst (λ l. Named l (Ok x)) (sym e) (text_named x));
}
