-- The whole numbers that powers of the six primes make.
use Rattle.std.specs.Prelude.{◌≡◌, ℕ, ◌*◌, ◌^◌, List, [], ◌∷◌, map, ℤ}
use borrow.Author.Differences.{up, down}

-- the primes of the bench, in rising order
abbrev pub primes : List ℕ
primes = 2 ∷ (3 ∷ (5 ∷ (7 ∷ (11 ∷ (13 ∷ [])))))

-- the product of numbers, each to its own power
abbrev pub product : List ℕ → List ℕ → ℕ
product [] ks = 1
product (p ∷ ps) [] = 1
product (p ∷ ps) (k ∷ ks) = p ^ k * product ps ks

-- the numerator of the ratio with these exponents: the primes with a positive one (`up e` is e, or 0 below zero)
abbrev pub numerator : List ℤ → ℕ
numerator es = product primes (map up es)

-- its denominator: the primes with a negative one (`down e` is -e, or 0 above zero)
abbrev pub denominator : List ℤ → ℕ
denominator es = product primes (map down es)

-- n and d have no common factor but 1
abbrev pub LowestTerms : ℕ → ℕ → Type 0
LowestTerms n d = (k x y : ℕ) → n ≡ k * x → d ≡ k * y → k ≡ 1
