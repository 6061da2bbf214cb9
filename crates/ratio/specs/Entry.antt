-- What entering two numbers as a ratio gives.
use Rattle.std.specs.Prelude.{◌≡◌, ℕ, ◌*◌, ◌<◌, ◌≤◌, ◌⊎◌, List, length, ℤ, Ok, Err, Result}
use Rattle.ratio.specs.declared.ratio.Ratio.{Ratio}
use Rattle.ratio.specs.declared.fault.RatioFault.{RatioFault}
use Rattle.ratio.specs.declared.fault.RatioFault.TheVariants.{ZeroPart, PartTooLarge, PrimeLeft}
use Rattle.ratio.specs.Products.{numerator, denominator}

-- n/d is the product of the six primes to the powers e
abbrev pub Quotient : ℕ → ℕ → List ℤ → Type 0
Quotient n d e = n * denominator e ≡ d * numerator e

-- neither part is 0, and neither is over the limit
pub record PartsFit (n d : ℕ) : Type 0 where
  pub numerator_some : 0 < n
  pub denominator_some : 0 < d
  pub numerator_small : n ≤ 4294967295
  pub denominator_small : d ≤ 4294967295

-- n/d holds a prime above 13 that nothing cancels: it is no product of powers of the six primes
abbrev pub HoldsOther : ℕ → ℕ → Type 0
HoldsOther n d = (e : List ℤ) → length e ≡ 6 → Quotient n d e → ⊥

-- the answer to the numbers n and d: the ratio that equals n/d, or the first fault that holds
abbrev pub Entered : ℕ → ℕ → Result Ratio RatioFault → Type 0
Entered n d (Ok r) = PartsFit n d × Quotient n d r.exponents
Entered n d (Err ZeroPart) = (n ≡ 0) ⊎ (d ≡ 0)
Entered n d (Err PartTooLarge) = (0 < n) × (0 < d) × ((4294967295 < n) ⊎ (4294967295 < d))
Entered n d (Err PrimeLeft) = PartsFit n d × HoldsOther n d
