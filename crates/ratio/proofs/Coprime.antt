-- Every number can be taken apart, and the parts of a ratio share no factor. Assumes nothing.
use Rattle.std.proofs.Common.{◌≡◌, ℕ, zero, suc, ◌*◌, ◌/◌, ◌%◌, ◌^◌, ◌<◌, ◌≤◌, List, [], ◌∷◌, map, length, ℤ, sym, refl, ap, ◌∙◌, subst, ⊎_elim, mul-le-mul_right, mul_assoc, one-mul, mul-zero, zero-mul, arith}
use native.Mathlib.Nat.{pow-zero, pow-succ', div-lt_self}
use borrow.Author.Differences.{up, down}
use Rattle.std.proofs.lemmas.Bool.{cases_eq}
use Rattle.ratio.specs.Products.{product, primes, numerator, denominator}
use Rattle.ratio.specs.Factors.{Misses, Without, minus}
use Rattle.ratio.specs.Entry.{Quotient}
use Rattle.ratio.proofs.Divides.{Distinct, primes_distinct}
use Rattle.ratio.proofs.Factoring.{Factored, misses_some}
use Rattle.ratio.proofs.Multiplicities.{divided, some_left, multiple}
use Rattle.ratio.proofs.Lowest.{primes_some, minus_six, rests_same, quotient_is, numerator_less}
use Rattle.ratio.proofs.Terms.{product_some}
use Rattle.ratio.proofs.Entered.{quotient_once}

-- n is a power of p times a rest that p does not divide
record Powered (p n : ℕ) : Type 0 where
  times : ℕ
  rest : ℕ
  parts : n ≡ p ^ times * rest
  left : Misses p rest

one_power_more : {p n : ℕ} → n % p ≡ 0 → Powered p (n / p) → Powered p n
one_power_more {p} {n} z f = record {
  times = suc f.times;
  rest = f.rest;
  parts = divided n p z ∙ (ap (λ k. p * k) f.parts ∙ (sym (mul_assoc p (p ^ f.times) f.rest) ∙ ap (λ k. k * f.rest) (sym (pow-succ' p f.times))));
  left = f.left;
}

powered : (fuel p n : ℕ) → 1 < p → 0 < n → n ≤ fuel → Powered p n
powered zero p n big some enough = absurd (omega arith)
powered (suc fuel) p n big some enough =
    ⊎_elim
    (λ (z : n % p ≡ 0). let less : n / p < n = div-lt_self some big in one_power_more z (powered fuel p (n / p) big (some_left n p some z) (omega arith)))
    (λ (m : n % p ≡ 0 → ⊥). record { times = 0; rest = n; parts = sym (ap (λ k. k * n) (pow-zero p) ∙ one-mul n); left = m })
    (cases_eq (n % p) 0)

-- n by the primes of a list
record Split (ps : List ℕ) (n : ℕ) : Type 0 where
  powers : List ℕ
  rest : ℕ
  long : length powers ≡ length ps
  parts : n ≡ product ps powers * rest
  left : Without ps rest

split : (ps : List ℕ) → Distinct ps → (n : ℕ) → 0 < n → Split ps n
split [] d n some = record { powers = []; rest = n; long = refl; parts = sym (one-mul n); left = tt }
split (p ∷ ps) d n some =
    let f = powered n p n d.0.large some (omega arith) in
    let s = split ps d.1.1.1 f.rest (misses_some p f.rest f.left) in
    record {
      powers = f.times ∷ s.powers;
      rest = s.rest;
      long = ap suc s.long;
      parts = f.parts ∙ (ap (λ k. p ^ f.times * k) s.parts ∙ sym (mul_assoc (p ^ f.times) (product ps s.powers) s.rest));
      left = (λ z. f.left (multiple f.rest p (product ps s.powers) s.rest s.parts z), s.left);
    }

pub factored : (n : ℕ) → 0 < n → (ks : List ℕ) × ((rest : ℕ) × Factored n ks rest)
factored n some = let s = split primes primes_distinct n some in (s.powers, (s.rest, record { six = s.long; parts = s.parts; left = s.left }))

some_factor : (n k x : ℕ) → 1 ≤ n → n ≡ k * x → 0 < x
some_factor n k zero some e = absurd (omega (arith, mul-zero k))
some_factor n k (suc x) some e = omega arith

only_one : (k x : ℕ) → 0 < x → 1 ≤ k * x → k * x ≤ x → k ≡ 1
only_one zero x some least most = absurd (omega (arith, zero-mul x))
only_one (suc zero) x some least most = refl
only_one (suc (suc k)) x some least most = let twice : 2 * x ≤ suc (suc k) * x = mul-le-mul_right x (omega arith) in absurd (omega arith)

turned_over : (x y k : ℕ) → x * (k * y) ≡ y * (k * x)
turned_over x y k = grind arith

-- a factor that both parts have is 1
pub no_common : (e : List ℤ) → length e ≡ 6 → (k x y : ℕ) → numerator e ≡ k * x → denominator e ≡ k * y → k ≡ 1
no_common e six k x y n_is d_is =
    let n_some : 1 ≤ numerator e = product_some primes (map up e) primes_some in
    let d_some : 1 ≤ denominator e = product_some primes (map down e) primes_some in
    let x_some = some_factor (numerator e) k x n_some n_is in
    let y_some = some_factor (denominator e) k y d_some d_is in
    let a = factored x x_some in
    let b = factored y y_some in
    let same : Quotient x y e = ap (λ m. x * m) d_is ∙ (turned_over x y k ∙ ap (λ m. y * m) (sym n_is)) in
    let rests = rests_same x y _ _ _ _ a.1.1 b.1.1 e six same in
    let is = quotient_once x y e (minus a.0 b.0) x_some y_some six (minus_six x y _ _ _ _ a.1.1 b.1.1) same (quotient_is x y _ _ _ _ a.1.1 b.1.1 rests) in
    let less : numerator e ≤ x = subst (λ z. numerator z ≤ x) (sym is) (numerator_less x y _ _ _ _ a.1.1 b.1.1) in
    only_one k x x_some (omega arith) (omega arith)
