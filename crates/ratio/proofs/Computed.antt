-- The computed answer to two numbers is the answer. Assumes nothing.
use Rattle.std.proofs.Common.{◌≡◌, ℕ, zero, suc, ◌*◌, ◌/◌, ◌%◌, ◌^◌, ◌<◌, ◌≤◌, Bool, true, false, ◌&&◌, T, eqb, leb, ◌⊎◌, List, [], ◌∷◌, map, length, ℤ, pos, ◌-ℤ◌, Err, Result, sym, refl, ap, ◌∙◌, subst, inl, inr, ⊎_elim, mul-le-mul_right, mul_assoc, one-mul, mul_left_comm, arith, lit≤}
use native.Mathlib.Nat.{mul-mod_right, pow-zero, pow-succ', pow-le-pow_left, div-eq_of_eq-mul_right}
use Rattle.std.specs.List.{AllByRecursion}
use Rattle.std.proofs.lemmas.Bool.{false≢true, leb-true, leb-false, le-leb, eqb-true, eqb-false, eq-eqb, ne_eqb, and_parts, and_cases, cond-true, cond-false, cond_both}
use Rattle.ratio.specs.declared.ratio.Ratio.{Ratio}
use Rattle.ratio.specs.declared.fault.RatioFault.{RatioFault}
use Rattle.ratio.specs.declared.fault.RatioFault.TheVariants.{PartTooLarge, PrimeLeft}
use Rattle.ratio.specs.Products.{product, primes, numerator, denominator}
use Rattle.ratio.specs.Factors.{Misses, Without, minus}
use Rattle.ratio.specs.Entry.{PartsFit, Quotient, Entered}
use Rattle.ratio.specs.Computed.{times, powers, ratio_if, quotient_if, entry}
use Rattle.ratio.proofs.Divides.{Distinct, primes_distinct}
use Rattle.ratio.proofs.Factoring.{Factored, misses_some, miss_power, miss_product}
use Rattle.ratio.proofs.Multiplicities.{few_times}
use Rattle.ratio.proofs.Lowest.{rests_same, quotient_is, numerator_less, denominator_less}
use Rattle.ratio.proofs.Entered.{entered_once}
use Rattle.ratio.proofs.Coprime.{factored}

-- ---- how often a prime divides

-- the count stops where the prime divides no more
times_is : (most p k q n : ℕ) → 1 < p → n ≡ p ^ k * q → Misses p q → k ≤ most → times most p n ≡ k
times_is zero p k q n big e m le = omega arith
times_is (suc most) p zero q n big e m le =
    let same : n ≡ q = e ∙ (ap (λ x. x * q) (pow-zero p) ∙ one-mul q) in
    cond-false (eqb (n % p) 0) (suc (times most p (n / p))) 0 (ne_eqb (n % p) 0 (λ z. m (ap (λ x. x % p) (sym same) ∙ z)))
times_is (suc most) p (suc k) q n big e m le =
    let more : n ≡ p * (p ^ k * q) = e ∙ (ap (λ x. x * q) (pow-succ' p k) ∙ mul_assoc p (p ^ k) q) in
    let none : n % p ≡ 0 = ap (λ x. x % p) more ∙ mul-mod_right p (p ^ k * q) in
    let some : 0 < p = omega arith in
    cond-true (eqb (n % p) 0) (suc (times most p (n / p))) 0 (eq-eqb (n % p) 0 none)
    ∙ ap suc (times_is most p k q (n / p) big (div-eq_of_eq-mul_right some more) m (omega arith))

-- no number within the limit has a prime 32 times
few_powers : (p k q n : ℕ) → 1 < p → 0 < q → n ≡ p ^ k * q → n ≤ 4294967295 → k < 32
few_powers p k q n big some e small =
    let power : 2 ^ k ≤ p ^ k = pow-le-pow_left big k in
    let less : 2 ^ k * q ≤ p ^ k * q = mul-le-mul_right q power in
    few_times k q n some (omega arith) small

-- a power of p times u is no multiple of primes that miss p and u
without_power : (p k u : ℕ) (ps : List ℕ) → Distinct ps → AllByRecursion (λ q. Misses q p) ps → Without ps u → Without ps (p ^ k * u)
without_power p k u [] d misses w = tt
without_power p k u (q ∷ ps) d misses w = (
  d.0.miss_both (p ^ k) u (miss_power d.0 p misses.0 k) w.0,
  without_power p k u ps d.1.1.1 misses.1 w.1,
)

-- the counts are the powers
times_all : (ps ks : List ℕ) (u n : ℕ) → Distinct ps → length ks ≡ length ps → Without ps u → n ≡ product ps ks * u → n ≤ 4294967295
    → map (λ p. times 32 p n) ps ≡ ks
times_all [] [] u n d long w e small = refl
times_all [] (k ∷ ks) u n d long w e small = absurd (omega arith)
times_all (p ∷ ps) [] u n d long w e small = absurd (omega arith)
times_all (p ∷ ps) (k ∷ ks) u n d long w e small =
    let big = d.0.large in
    let first : n ≡ p ^ k * (product ps ks * u) = e ∙ mul_assoc (p ^ k) (product ps ks) u in
    let later : n ≡ product ps ks * (p ^ k * u) = first ∙ mul_left_comm (p ^ k) (product ps ks) u in
    let misses : Misses p (product ps ks * u) = d.0.miss_both (product ps ks) u (miss_product d.0 ps ks d.1.0) w.0 in
    let few = few_powers p k (product ps ks * u) n big (misses_some p (product ps ks * u) misses) first small in
    let here : times 32 p n ≡ k = times_is 32 p k (product ps ks * u) n big first misses (omega arith) in
    let there = times_all ps ks (p ^ k * u) n d.1.1.1 (omega arith) (without_power p k u ps d.1.1.1 d.1.1.0 w.1) later small in
    cc

differences_map : (f g : ℕ → ℕ) (ps : List ℕ) → map (λ p. pos (f p) -ℤ pos (g p)) ps ≡ minus (map f ps) (map g ps)
differences_map f g [] = refl
differences_map f g (p ∷ ps) = ap (λ zs. (pos (f p) -ℤ pos (g p)) ∷ zs) (differences_map f g ps)

-- the computed exponents are the differences of the multiplicities
pub powers_are : (n d : ℕ) (xs ys : List ℕ) (u v : ℕ) → Factored n xs u → Factored d ys v → n ≤ 4294967295 → d ≤ 4294967295 → powers n d ≡ minus xs ys
powers_are n d xs ys u v above below n_small d_small =
    let a = times_all primes xs u n primes_distinct above.six above.left above.parts n_small in
    let b = times_all primes ys v d primes_distinct below.six below.left below.parts d_small in
    differences_map (λ p. times 32 p n) (λ p. times 32 p d) primes ∙ (ap (λ ks. minus ks (map (λ p. times 32 p d) primes)) a ∙ ap (minus xs) b)

-- ---- the answer

ratio_if_entered : (n d : ℕ) (e : List ℤ) (six : length e ≡ 6) (above below : Bool)
    (n_fits : T above → numerator e ≤ 4294967295) (d_fits : T below → denominator e ≤ 4294967295)
    → above ≡ true → below ≡ true → PartsFit n d → Quotient n d e → Entered n d (ratio_if e six above below n_fits d_fits)
ratio_if_entered n d e six true true n_fits d_fits a b fit is = (fit, is)
ratio_if_entered n d e six true false n_fits d_fits a b fit is = absurd (false≢true b)
ratio_if_entered n d e six false below n_fits d_fits a b fit is = absurd (false≢true a)

-- the exponents of the quotient, if it has any
quotient_if_entered : (n d : ℕ) (xs ys : List ℕ) (u v : ℕ) → Factored n xs u → Factored d ys v → PartsFit n d
    → (e : List ℤ) (six : length e ≡ 6) → e ≡ minus xs ys → Entered n d (quotient_if n d e six)
quotient_if_entered n d xs ys u v above below fit e six is =
    let n_fits : numerator e ≤ n = subst (λ z. numerator z ≤ n) (sym is) (numerator_less n d xs ys u v above below) in
    let d_fits : denominator e ≤ d = subst (λ z. denominator z ≤ d) (sym is) (denominator_less n d xs ys u v above below) in
    cond_both (eqb (n * denominator e) (d * numerator e)) (ratio_if e six (leb (numerator e) 4294967295) (leb (denominator e) 4294967295) lit≤ lit≤) (Err PrimeLeft) (Entered n d)
    (λ t. ratio_if_entered n d e six (leb (numerator e) 4294967295) (leb (denominator e) 4294967295) lit≤ lit≤
    (le-leb (numerator e) 4294967295 (omega arith)) (le-leb (denominator e) 4294967295 (omega arith)) fit (eqb-true (n * denominator e) (d * numerator e) t))
    (λ f. (
      fit,
      λ z long q.
          eqb-false (n * denominator e) (d * numerator e) f (subst (Quotient n d) (sym is) (quotient_is n d xs ys u v above below (rests_same n d xs ys u v above below z long q))),
    ))

fit_by_tests : (n d : ℕ) → 0 < n → 0 < d → (leb n 4294967295 && leb d 4294967295) ≡ true → PartsFit n d
fit_by_tests n d n_some d_some t =
    let both = and_parts (leb n 4294967295) (leb d 4294967295) t in
    record { numerator_some = n_some; denominator_some = d_some; numerator_small = leb-true n 4294967295 both.0; denominator_small = leb-true d 4294967295 both.1 }

large_by_tests : (n d : ℕ) → (leb n 4294967295 && leb d 4294967295) ≡ false → (4294967295 < n) ⊎ (4294967295 < d)
large_by_tests n d f =
    ⊎_elim (λ a. inl (leb-false n 4294967295 a)) (λ b. inr (leb-false d 4294967295 b)) (and_cases (leb n 4294967295) (leb d 4294967295) f)

fit_entered : (n d : ℕ) → PartsFit n d → Entered n d (quotient_if n d (powers n d) refl)
fit_entered n d fit =
    let a = factored n fit.numerator_some in
    let b = factored d fit.denominator_some in
    quotient_if_entered n d a.0 b.0 a.1.0 b.1.0 a.1.1 b.1.1 fit (powers n d) refl
    (powers_are n d a.0 b.0 a.1.0 b.1.0 a.1.1 b.1.1 fit.numerator_small fit.denominator_small)

-- the computed answer is right
pub entry_entered : (n d : ℕ) → Entered n d (entry n d)
entry_entered zero d = inl refl
entry_entered (suc n) zero = inr refl
entry_entered (suc n) (suc d) =
    let n_some : 0 < suc n = omega arith in
    let d_some : 0 < suc d = omega arith in
    cond_both (leb (suc n) 4294967295 && leb (suc d) 4294967295) (quotient_if (suc n) (suc d) (powers (suc n) (suc d)) refl) (Err PartTooLarge) (Entered (suc n) (suc d))
    (λ t. fit_entered (suc n) (suc d) (fit_by_tests (suc n) (suc d) n_some d_some t))
    (λ f. (n_some, d_some, large_by_tests (suc n) (suc d) f))

-- and so it is the only one
pub entry_is : (n d : ℕ) (r : Result Ratio RatioFault) → Entered n d r → r ≡ entry n d
entry_is n d r entered = entered_once n d r (entry n d) entered (entry_entered n d)

-- two numbers of which one is too large, and neither is 0
pub entry_large : (n d : ℕ) → 0 < n → 0 < d → (4294967295 < n) ⊎ (4294967295 < d) → Err PartTooLarge ≡ entry n d
entry_large n d n_some d_some over = entry_is n d (Err PartTooLarge) (n_some, d_some, over)
