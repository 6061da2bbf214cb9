-- What entering two numbers gives, computed. `Entered` says which answer is right; this one is, and no other.
use Rattle.std.specs.Prelude.{◌≡◌, ℕ, zero, suc, ◌*◌, ◌/◌, ◌%◌, ◌≤◌, Bool, true, false, cond, ◌&&◌, T, List, map, length, ℤ, pos, ◌-ℤ◌, Ok, Err, Result, ◌==◌, nat_le, refl}
use Rattle.std.proofs.Common.{lit≤}
use Rattle.ratio.specs.declared.ratio.Ratio.{Ratio}
use Rattle.ratio.specs.declared.fault.RatioFault.{RatioFault}
use Rattle.ratio.specs.declared.fault.RatioFault.TheVariants.{ZeroPart, PartTooLarge, PrimeLeft}
use Rattle.ratio.specs.Products.{primes, numerator, denominator}

-- how often p divides n, counted up to `most`
abbrev pub times : ℕ → ℕ → ℕ → ℕ
times zero p n = 0
times (suc most) p n = cond (n % p == 0) (suc (times most p (n / p))) 0

-- how much more often each of the six primes divides n than d; none divides a number below 2 ^ 32 more than 31 times
abbrev pub powers : ℕ → ℕ → List ℤ
powers n d = map (λ p. pos (times 32 p n) -ℤ pos (times 32 p d)) primes

-- the ratio with the exponents e, if two tests hold that its parts are within the limit (those of an n/d within it always are)
abbrev pub ratio_if : (e : List ℤ) → length e ≡ 6 → (above below : Bool)
    → (T above → numerator e ≤ 4294967295) → (T below → denominator e ≤ 4294967295) → Result Ratio RatioFault
ratio_if e six true true n_fits d_fits = Ok (record { exponents = e; six = six; numerator_fits = n_fits tt; denominator_fits = d_fits tt })
ratio_if e six true false n_fits d_fits = Err PrimeLeft
ratio_if e six false below n_fits d_fits = Err PrimeLeft

-- the ratio with the exponents e, if it is n/d, and else the fault that another prime is left
abbrev pub quotient_if : ℕ → ℕ → (e : List ℤ) → length e ≡ 6 → Result Ratio RatioFault
quotient_if n d e six =
    cond (n * denominator e == d * numerator e) (ratio_if e six (nat_le (numerator e) 4294967295) (nat_le (denominator e) 4294967295) lit≤ lit≤) (Err PrimeLeft)

-- the ratio n/d, or the first fault that holds
abbrev pub entry : ℕ → ℕ → Result Ratio RatioFault
entry zero d = Err ZeroPart
entry (suc n) zero = Err ZeroPart
entry (suc n) (suc d) =
    cond (nat_le (suc n) 4294967295 && nat_le (suc d) 4294967295) (quotient_if (suc n) (suc d) (powers (suc n) (suc d)) refl) (Err PartTooLarge)
