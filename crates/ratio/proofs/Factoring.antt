-- A product of powers of distinct primes, times a rest that none of them divides, has one set of powers and one rest.
-- Assumes nothing.
use Rattle.std.proofs.Common.{◌≡◌, ℕ, zero, suc, ◌+◌, ◌*◌, ◌%◌, ◌^◌, ◌<◌, List, [], ◌∷◌, length, sym, refl, ap, ◌∙◌, subst, mod-eq_of_lt, mul_assoc, one-mul, arith, pow-add}
use native.Mathlib.Nat.{mul-mod_right, pow-zero, pow-succ', eq_of_mul-eq-mul_left, zero-mod}
use Rattle.std.specs.List.{AllByRecursion}
use Rattle.ratio.specs.Products.{product, primes}
use Rattle.ratio.specs.Factors.{Misses, Without}
use Rattle.ratio.proofs.Divides.{Prime, Distinct}

-- n is the primes to the powers ks, times a rest that none of them divides
pub record Factored (n : ℕ) (ks : List ℕ) (rest : ℕ) : Type 0 where
  pub six : length ks ≡ 6
  pub parts : n ≡ product primes ks * rest
  pub left : Without primes rest

pub misses_one : {p : ℕ} → Prime p → Misses p 1
misses_one {p} prime z = let e : 1 % p ≡ 1 = mod-eq_of_lt prime.large in omega arith

pub misses_some : (p n : ℕ) → Misses p n → 0 < n
misses_some p zero m = absurd (m (zero-mod p))
misses_some p (suc n) m = omega arith

pub miss_power : {p : ℕ} → Prime p → (q : ℕ) → Misses p q → (k : ℕ) → Misses p (q ^ k)
miss_power {p} prime q m zero = subst (Misses p) (sym (pow-zero q)) (misses_one prime)
miss_power {p} prime q m (suc k) = subst (Misses p) (sym (pow-succ' q k)) (prime.miss_both q (q ^ k) m (miss_power prime q m k))

pub miss_product : {p : ℕ} → Prime p → (ps ks : List ℕ) → AllByRecursion (Misses p) ps → Misses p (product ps ks)
miss_product prime [] ks m = misses_one prime
miss_product prime (q ∷ ps) [] m = misses_one prime
miss_product prime (q ∷ ps) (k ∷ ks) m = prime.miss_both (q ^ k) (product ps ks) (miss_power prime q m.0 k) (miss_product prime ps ks m.1)

-- one prime: the power and the rest
one_prime : {p : ℕ} → Prime p → (j k q r : ℕ) → p ^ j * q ≡ p ^ k * r → Misses p q → Misses p r → (j ≡ k) × (q ≡ r)
one_prime {p} prime zero zero q r e mq mr = (refl, sym (one-mul q) ∙ (ap (λ n. n * q) (sym (pow-zero p)) ∙ (e ∙ (ap (λ n. n * r) (pow-zero p) ∙ one-mul r))))
one_prime {p} prime zero (suc k) q r e mq mr =
    let d : q ≡ p * (p ^ k * r) = sym (one-mul q) ∙ (ap (λ n. n * q) (sym (pow-zero p)) ∙ (e ∙ (ap (λ n. n * r) (pow-succ' p k) ∙ mul_assoc p (p ^ k) r))) in
    absurd (mq (ap (λ n. n % p) d ∙ mul-mod_right p (p ^ k * r)))
one_prime {p} prime (suc j) zero q r e mq mr =
    let d : r ≡ p * (p ^ j * q) = sym (one-mul r) ∙ (ap (λ n. n * r) (sym (pow-zero p)) ∙ (sym e ∙ (ap (λ n. n * q) (pow-succ' p j) ∙ mul_assoc p (p ^ j) q))) in
    absurd (mr (ap (λ n. n % p) d ∙ mul-mod_right p (p ^ j * q)))
one_prime {p} prime (suc j) (suc k) q r e mq mr =
    let big = prime.large in
    let d : p * (p ^ j * q) ≡ p * (p ^ k * r) =
    sym (mul_assoc p (p ^ j) q) ∙ (ap (λ n. n * q) (sym (pow-succ' p j)) ∙ (e ∙ (ap (λ n. n * r) (pow-succ' p k) ∙ mul_assoc p (p ^ k) r))) in
    let less = one_prime prime j k q r (eq_of_mul-eq-mul_left p (omega arith) (p ^ j * q) (p ^ k * r) d) mq mr in
    (ap suc less.0, less.1)

pub same_product : (ps : List ℕ) → Distinct ps → (xs ys : List ℕ) → length xs ≡ length ps → length ys ≡ length ps → (u v : ℕ)
    → AllByRecursion (λ p. Misses p u) ps → AllByRecursion (λ p. Misses p v) ps → product ps xs * u ≡ product ps ys * v → (xs ≡ ys) × (u ≡ v)
same_product [] d [] [] lx ly u v mu mv e = (refl, sym (one-mul u) ∙ (e ∙ one-mul v))
same_product [] d (x ∷ xs) ys lx ly u v mu mv e = absurd (omega arith)
same_product [] d [] (y ∷ ys) lx ly u v mu mv e = absurd (omega arith)
same_product (p ∷ ps) d [] ys lx ly u v mu mv e = absurd (omega arith)
same_product (p ∷ ps) d (x ∷ xs) [] lx ly u v mu mv e = absurd (omega arith)
same_product (p ∷ ps) d (x ∷ xs) (y ∷ ys) lx ly u v mu mv e =
    let prime = d.0 in
    let grouped : p ^ x * (product ps xs * u) ≡ p ^ y * (product ps ys * v) =
    sym (mul_assoc (p ^ x) (product ps xs) u) ∙ (e ∙ mul_assoc (p ^ y) (product ps ys) v) in
    let first = one_prime prime x y (product ps xs * u) (product ps ys * v) grouped
    (prime.miss_both (product ps xs) u (miss_product prime ps xs d.1.0) mu.0)
    (prime.miss_both (product ps ys) v (miss_product prime ps ys d.1.0) mv.0) in
    let rest = same_product ps d.1.1.1 xs ys (omega arith) (omega arith) u v mu.1 mv.1 first.1 in
    (cc (first.0, rest.0), rest.1)

-- ---- products of products

-- the powers of both, prime by prime
abbrev pub plus : List ℕ → List ℕ → List ℕ
plus [] ys = []
plus (x ∷ xs) [] = []
plus (x ∷ xs) (y ∷ ys) = (x + y) ∷ plus xs ys

pub length_plus : (xs ys : List ℕ) (n : ℕ) → length xs ≡ n → length ys ≡ n → length (plus xs ys) ≡ n
length_plus [] ys n h i = h
length_plus (x ∷ xs) [] n h i = absurd (omega arith)
length_plus (x ∷ xs) (y ∷ ys) zero h i = absurd (omega arith)
length_plus (x ∷ xs) (y ∷ ys) (suc n) h i = ap suc (length_plus xs ys n (omega arith) (omega arith))

swapped : (a b c d : ℕ) → (a * b) * (c * d) ≡ (a * c) * (b * d)
swapped a b c d = grind arith

pub product_plus : (ps xs ys : List ℕ) → length xs ≡ length ps → length ys ≡ length ps → product ps xs * product ps ys ≡ product ps (plus xs ys)
product_plus [] xs ys h i = one-mul 1
product_plus (p ∷ ps) [] ys h i = absurd (omega arith)
product_plus (p ∷ ps) (x ∷ xs) [] h i = absurd (omega arith)
product_plus (p ∷ ps) (x ∷ xs) (y ∷ ys) h i =
    let less = product_plus ps xs ys (omega arith) (omega arith) in
    swapped (p ^ x) (product ps xs) (p ^ y) (product ps ys) ∙ cc (less, pow-add p x y)
