-- Weights of the six primes, and distances by them.
use Rattle.std.specs.Prelude.{◌≡◌, ℕ, ◌+◌, ◌-◌, ◌*◌, ◌^◌, ◌<◌, ◌≤◌, List, [], ◌∷◌, map, length, ℤ, slice_index}
use Rattle.ratio.specs.Products.{primes}
use Rattle.ratio.specs.declared.ratio.Ratio.{Ratio}
use Rattle.measure.specs.Apart.{apart}

-- each weight is from 1 to 1,000,000
abbrev pub Allowed : List ℕ → Type 0
Allowed ws = (k : ℕ) → k < length ws → (1 ≤ slice_index ws k) × (slice_index ws k ≤ 1000000)

-- Barlow's rule for the weight of a prime p: 60,060 (p - 1)² / p
abbrev pub ByBarlow : ℕ → ℕ → Type 0
ByBarlow p w = w * p ≡ 60060 * (p - 1) ^ 2

-- Barlow's weights of the six primes
abbrev pub barlow_weights : List ℕ
barlow_weights = 30030 ∷ (80080 ∷ (192192 ∷ (308880 ∷ (546000 ∷ (665280 ∷ [])))))

-- Euler's: p - 1
abbrev pub euler_weights : List ℕ
euler_weights = map (λ p. p - 1) primes

-- the sum of each weight times how far apart the exponents at its place are
abbrev pub weighted : List ℕ → List ℤ → List ℤ → ℕ
weighted [] xs ys = 0
weighted (w ∷ ws) [] ys = 0
weighted (w ∷ ws) (x ∷ xs) [] = 0
weighted (w ∷ ws) (x ∷ xs) (y ∷ ys) = w * apart x y + weighted ws xs ys

-- the distance of two ratios by weights of the primes
abbrev pub weighted_distance : List ℕ → Ratio → Ratio → ℕ
weighted_distance ws a b = weighted ws a.exponents b.exponents
