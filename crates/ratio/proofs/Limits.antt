-- How large the exponents of a ratio can be: at most 31, 20, 13, 11, 9 and 8, above zero and below it.
use Rattle.std.proofs.Common.{◌≡◌, ℕ, suc, ◌*◌, ◌^◌, ◌<◌, ◌≤◌, Bool, true, false, ◌&&◌, ltb, List, [], ◌∷◌, map, ℤ, refl, ⊎_elim, mul-le-mul_right, one-mul, le-mul_of_pos_right, arith}
use native.Mathlib.Nat.{one-le-pow, one-le-mul, pow-le-pow_right}
use borrow.Author.Differences.{up, down, abs_is}
use Rattle.std.proofs.lemmas.Bool.{and_parts, ltb-true, cases_lt, false≢true}
use Rattle.ratio.specs.Limits.{limits, Within}
use Rattle.ratio.specs.Products.{primes, product}
use Rattle.ratio.specs.declared.ratio.Ratio.{Ratio}

-- each factor has its limit, and its next power after that limit is above n
abbrev limited : ℕ → List ℕ → List ℕ → Bool
limited n [] [] = true
limited n [] (l ∷ ls) = false
limited n (p ∷ ps) [] = false
limited n (p ∷ ps) (l ∷ ls) = (ltb 0 p && ltb n (p ^ suc l)) && limited n ps ls

product_positive : (n : ℕ) (ps ls ks : List ℕ) → limited n ps ls ≡ true → 1 ≤ product ps ks
product_positive n [] ls ks h = omega arith
product_positive n (p ∷ ps) [] ks h = absurd (false≢true h)
product_positive n (p ∷ ps) (l ∷ ls) [] h = omega arith
product_positive n (p ∷ ps) (l ∷ ls) (k ∷ ks) h =
    let both = and_parts (ltb 0 p && ltb n (p ^ suc l)) (limited n ps ls) h in
    let here = and_parts (ltb 0 p) (ltb n (p ^ suc l)) both.0 in
    one-le-mul (one-le-pow k p (ltb-true 0 p here.0)) (product_positive n ps ls ks both.1)

-- a power in a product up to n has an exponent up to its limit
power_limited : (n p l k rest : ℕ) → 0 < p → n < p ^ suc l → 1 ≤ rest → p ^ k * rest ≤ n → k ≤ l
power_limited n p l k rest positive past some h =
    ⊎_elim
    (λ (over : l < k). absurd (omega (arith, pow-le-pow_right {n = p} positive {i = suc l} {j = k} over, le-mul_of_pos_right (p ^ k) some)))
    (λ (within : k ≤ l). within)
    (cases_lt l k)

rest_below : (n p k rest : ℕ) → 0 < p → p ^ k * rest ≤ n → rest ≤ n
rest_below n p k rest positive h = omega (arith, mul-le-mul_right rest (one-le-pow k p positive), one-mul rest)

exponents_within : (n : ℕ) (ps ls : List ℕ) (es : List ℤ) → limited n ps ls ≡ true → product ps (map up es) ≤ n → product ps (map down es) ≤ n → Within ls es
exponents_within n [] [] es h above below = tt
exponents_within n [] (l ∷ ls) es h above below = absurd (false≢true h)
exponents_within n (p ∷ ps) [] es h above below = tt
exponents_within n (p ∷ ps) (l ∷ ls) [] h above below = tt
exponents_within n (p ∷ ps) (l ∷ ls) (e ∷ es) h above below =
    let both = and_parts (ltb 0 p && ltb n (p ^ suc l)) (limited n ps ls) h in
    let here = and_parts (ltb 0 p) (ltb n (p ^ suc l)) both.0 in
    let positive = ltb-true 0 p here.0 in
    let past = ltb-true n (p ^ suc l) here.1 in
    let high = power_limited n p l (up e) (product ps (map up es)) positive past (product_positive n ps ls (map up es) both.1) above in
    let low = power_limited n p l (down e) (product ps (map down es)) positive past (product_positive n ps ls (map down es) both.1) below in
    (omega (arith, abs_is e), exponents_within n ps ls es both.1 (rest_below n p (up e) _ positive above) (rest_below n p (down e) _ positive below))

-- what the invariant of a ratio says of its exponents
pub ratio_within : (r : Ratio) → Within limits r.exponents
ratio_within r = exponents_within 4294967295 primes limits r.exponents refl r.numerator_fits r.denominator_fits
