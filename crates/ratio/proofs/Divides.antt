-- Powers of distinct primes: what two products of them have in common. Assumes nothing.
use Rattle.std.proofs.Common.{◌≡◌, ℕ, zero, suc, ◌+◌, ◌*◌, ◌/◌, ◌%◌, ◌<◌, Bool, true, not, ◌&&◌, ◌||◌, eqb, ltb, List, [], ◌∷◌, sym, refl, ap, ◌∙◌, ⊎_elim, mod-lt, mul_assoc, mul_comm, add-mul, arith}
use native.Mathlib.Nat.{add-mul-mod_self_left, div-add-mod}
use Rattle.std.specs.List.{AllByRecursion}
use Rattle.std.proofs.lemmas.Bool.{eqb-true, eqb-false, eq-eqb, ltb-true, and_parts, or_cases, not-true, both_ways, cases_eq}
use Rattle.ratio.specs.Products.{primes}
use Rattle.ratio.specs.Factors.{Misses}

-- p divides a product only if it divides a factor
pub record Prime (p : ℕ) : Type 0 where
  pub large : 1 < p
  pub miss_both : (a b : ℕ) → Misses p a → Misses p b → Misses p (a * b)

-- ---- a number is prime if no product of two remainders but 0 has the remainder 0

-- the test holds of each number below n
abbrev pub below : ℕ → (ℕ → Bool) → Bool
below zero t = true
below (suc n) t = t n && below n t

pub below_at : (n : ℕ) (t : ℕ → Bool) → below n t ≡ true → (k : ℕ) → k < n → t k ≡ true
below_at zero t e k h = absurd (omega arith)
below_at (suc n) t e k h =
    let both = and_parts (t n) (below n t) e in
    ⊎_elim (λ (same : k ≡ n). ap t same ∙ both.0) (λ (other : k ≡ n → ⊥). below_at n t both.1 k (omega arith)) (cases_eq k n)

abbrev no_zero : ℕ → ℕ → ℕ → Bool
no_zero p a b = eqb a 0 || (eqb b 0 || not (eqb ((a * b) % p) 0))

abbrev prime_test : ℕ → Bool
prime_test p = ltb 1 p && below p (λ a. below p (no_zero p a))

mod_left : (a b p : ℕ) → (a * b) % p ≡ ((a % p) * b) % p
mod_left a b p =
    let split : a * b ≡ (a % p) * b + p * ((a / p) * b) =
    ap (λ n. n * b) (sym (div-add-mod a p)) ∙ (add-mul (p * (a / p)) (a % p) b ∙ omega (arith, mul_assoc p (a / p) b)) in
    ap (λ n. n % p) split ∙ add-mul-mod_self_left ((a % p) * b) p ((a / p) * b)

mod_both : (a b p : ℕ) → (a * b) % p ≡ ((a % p) * (b % p)) % p
mod_both a b p =
    mod_left a b p ∙ (ap (λ n. n % p) (mul_comm (a % p) b) ∙ (mod_left b (a % p) p ∙ ap (λ n. n % p) (mul_comm (b % p) (a % p))))

prime_by_test : (p : ℕ) → prime_test p ≡ true → Prime p
prime_by_test p e =
    let parts = and_parts (ltb 1 p) (below p (λ a. below p (no_zero p a))) e in
    let big : 1 < p = ltb-true 1 p parts.0 in
    let row : (a b : ℕ) → a < p → b < p → no_zero p a b ≡ true = λ a b h i. below_at p (no_zero p a) (below_at p (λ x. below p (no_zero p x)) parts.1 a h) b i in
    record {
      large = big;
      miss_both = λ a b ma mb z.
          ⊎_elim (λ w. ma (eqb-true (a % p) 0 w))
          (λ w. ⊎_elim (λ v. mb (eqb-true (b % p) 0 v))
          (λ v. both_ways (eqb (((a % p) * (b % p)) % p) 0) (not-true (eqb (((a % p) * (b % p)) % p) 0) v) (eq-eqb (((a % p) * (b % p)) % p) 0 (sym (mod_both a b p) ∙ z)))
          (or_cases (eqb (b % p) 0) (not (eqb (((a % p) * (b % p)) % p) 0)) w))
          (or_cases (eqb (a % p) 0) (eqb (b % p) 0 || not (eqb (((a % p) * (b % p)) % p) 0)) (row (a % p) (b % p) (mod-lt a (omega arith)) (mod-lt b (omega arith))));
    }

-- ---- distinct primes

-- each is prime, and no multiple of any that stands after it, nor one of these of it
abbrev pub Distinct : List ℕ → Type 0
Distinct [] = Unit {0}
Distinct (p ∷ ps) = Prime p × (AllByRecursion (Misses p) ps × (AllByRecursion (λ q. Misses q p) ps × Distinct ps))

abbrev all_test : (ℕ → Bool) → List ℕ → Bool
all_test t [] = true
all_test t (p ∷ ps) = t p && all_test t ps

all_by_test : (t : ℕ → Bool) (P : ℕ → Type 0) → ((n : ℕ) → t n ≡ true → P n) → (ps : List ℕ) → all_test t ps ≡ true → AllByRecursion P ps
all_by_test t P f [] e = tt
all_by_test t P f (p ∷ ps) e = let both = and_parts (t p) (all_test t ps) e in (f p both.0, all_by_test t P f ps both.1)

miss_test : (p n : ℕ) → not (eqb (n % p) 0) ≡ true → Misses p n
miss_test p n e = eqb-false (n % p) 0 (not-true (eqb (n % p) 0) e)

abbrev distinct_test : List ℕ → Bool
distinct_test [] = true
distinct_test (p ∷ ps) = prime_test p && (all_test (λ q. not (eqb (q % p) 0)) ps && (all_test (λ q. not (eqb (p % q) 0)) ps && distinct_test ps))

distinct_by_test : (ps : List ℕ) → distinct_test ps ≡ true → Distinct ps
distinct_by_test [] e = tt
distinct_by_test (p ∷ ps) e =
    let a = and_parts (prime_test p) (all_test (λ q. not (eqb (q % p) 0)) ps && (all_test (λ q. not (eqb (p % q) 0)) ps && distinct_test ps)) e in
    let b = and_parts (all_test (λ q. not (eqb (q % p) 0)) ps) (all_test (λ q. not (eqb (p % q) 0)) ps && distinct_test ps) a.1 in
    let d = and_parts (all_test (λ q. not (eqb (p % q) 0)) ps) (distinct_test ps) b.1 in (
      prime_by_test p a.0,
      (
        all_by_test (λ q. not (eqb (q % p) 0)) (Misses p) (miss_test p) ps b.0,
        (
          all_by_test (λ q. not (eqb (p % q) 0)) (λ q. Misses q p) (λ q. miss_test q p) ps d.0,
          distinct_by_test ps d.1,
        ),
      ),
    )

pub primes_distinct : Distinct primes
primes_distinct = distinct_by_test primes refl
