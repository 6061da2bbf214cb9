-- Entering two numbers has one answer, and a ratio's own parts give that ratio. Assumes nothing.
use Rattle.std.proofs.Common.{◌≡◌, ℕ, ◌*◌, ◌<◌, ◌⊎◌, List, map, length, ℤ, Ok, Err, Result, refl, ap, ◌∙◌, ⊎_elim, mul_comm, mul-pos, arith}
use native.Mathlib.Nat.{eq_of_mul-eq-mul_left}
use borrow.Author.Differences.{up, down}
use Rattle.ratio.specs.declared.ratio.Ratio.{Ratio}
use Rattle.ratio.specs.declared.fault.RatioFault.{RatioFault}
use Rattle.ratio.specs.declared.fault.RatioFault.TheVariants.{ZeroPart, PartTooLarge, PrimeLeft}
use Rattle.ratio.specs.Products.{primes, numerator, denominator}
use Rattle.ratio.specs.Entry.{PartsFit, Quotient, Entered}
use Rattle.ratio.proofs.Lowest.{same_exponents, primes_some}
use Rattle.ratio.proofs.Same.{same_ratio}
use Rattle.ratio.proofs.Terms.{product_some}

-- two sets of exponents of one quotient are the same
crossed : (n d a b x y : ℕ) → n * b ≡ d * a → n * y ≡ d * x → (n * d) * (a * y) ≡ (n * d) * (x * b)
crossed n d a b x y e f =
    let l : (n * d) * (a * y) ≡ (d * a) * (n * y) = grind arith in
    let r : (n * d) * (x * b) ≡ (n * b) * (d * x) = grind arith in
    l ∙ cc

pub quotient_once : (n d : ℕ) (a b : List ℤ) → 0 < n → 0 < d → length a ≡ 6 → length b ≡ 6 → Quotient n d a → Quotient n d b → a ≡ b
quotient_once n d a b hn hd la lb p q =
    same_exponents a b la lb
    (eq_of_mul-eq-mul_left (n * d) (mul-pos hn hd) (numerator a * denominator b) (numerator b * denominator a)
    (crossed n d (numerator a) (denominator a) (numerator b) (denominator b) p q))

fair_zero : {n d : ℕ} → PartsFit n d → (n ≡ 0) ⊎ (d ≡ 0) → ⊥
fair_zero w z = ⊎_elim (λ h. omega (arith, w.numerator_some)) (λ h. omega (arith, w.denominator_some)) z

fair_large : {n d : ℕ} → PartsFit n d → (0 < n) × (0 < d) × ((4294967295 < n) ⊎ (4294967295 < d)) → ⊥
fair_large w z = ⊎_elim (λ h. omega (arith, w.numerator_small)) (λ h. omega (arith, w.denominator_small)) z.2

zero_large : {n d : ℕ} → (n ≡ 0) ⊎ (d ≡ 0) → (0 < n) × (0 < d) × ((4294967295 < n) ⊎ (4294967295 < d)) → ⊥
zero_large z l = ⊎_elim (λ h. omega (arith, l.0)) (λ h. omega (arith, l.1)) z

pub entered_once : (n d : ℕ) (r s : Result Ratio RatioFault) → Entered n d r → Entered n d s → r ≡ s
entered_once n d (Ok r) (Ok s) a b =
    ap Ok (same_ratio r s (quotient_once n d r.exponents s.exponents a.0.numerator_some a.0.denominator_some r.six s.six a.1 b.1))
entered_once n d (Ok r) (Err ZeroPart) a b = absurd (fair_zero a.0 b)
entered_once n d (Ok r) (Err PartTooLarge) a b = absurd (fair_large a.0 b)
entered_once n d (Ok r) (Err PrimeLeft) a b = absurd (b.1 r.exponents r.six a.1)
entered_once n d (Err ZeroPart) (Ok s) a b = absurd (fair_zero b.0 a)
entered_once n d (Err ZeroPart) (Err ZeroPart) a b = refl
entered_once n d (Err ZeroPart) (Err PartTooLarge) a b = absurd (zero_large a b)
entered_once n d (Err ZeroPart) (Err PrimeLeft) a b = absurd (fair_zero b.0 a)
entered_once n d (Err PartTooLarge) (Ok s) a b = absurd (fair_large b.0 a)
entered_once n d (Err PartTooLarge) (Err ZeroPart) a b = absurd (zero_large b a)
entered_once n d (Err PartTooLarge) (Err PartTooLarge) a b = refl
entered_once n d (Err PartTooLarge) (Err PrimeLeft) a b = absurd (fair_large b.0 a)
entered_once n d (Err PrimeLeft) (Ok s) a b = absurd (a.1 s.exponents s.six b.1)
entered_once n d (Err PrimeLeft) (Err ZeroPart) a b = absurd (fair_zero a.0 b)
entered_once n d (Err PrimeLeft) (Err PartTooLarge) a b = absurd (fair_large a.0 b)
entered_once n d (Err PrimeLeft) (Err PrimeLeft) a b = refl

-- the parts of a ratio, entered, are the ratio
pub parts_entered : (x : Ratio) → Entered (numerator x.exponents) (denominator x.exponents) (Ok x)
parts_entered x = (
  record {
    numerator_some = product_some primes (map up x.exponents) primes_some;
    denominator_some = product_some primes (map down x.exponents) primes_some;
    numerator_small = x.numerator_fits;
    denominator_small = x.denominator_fits;
  },
  mul_comm (numerator x.exponents) (denominator x.exponents),
)
