-- The parts of a ratio as products of its exponents, place by place. Assumes nothing.
use Rattle.std.proofs.Common.{◌≡◌, ℕ, zero, suc, ◌+◌, ◌*◌, ◌^◌, ◌<◌, ◌≤◌, List, [], ◌∷◌, map, length, get_or, take, ℤ, pos, negsuc, ◌-ℤ◌, neg_ℤ, nat_abs, sym, refl, ap, ◌∙◌, mul-le-mul_right, mul-le-mul_left, arith, w8, SFits, to_z, of_z}
use native.Mathlib.Nat.{one-le-pow, one-le-mul}
use Rattle.std.proofs.lemmas.Int.{ints}
use lib.ListN.{length-map}
use borrow.Author.Differences.{up, down}
use Rattle.std.specs.Int.{FitsUnsignedBits}
use Rattle.std.specs.List.{AllByRecursion}
use Rattle.std.proofs.ByRecursion.{All-take, All-get_or}
use Rattle.std.proofs.lemmas.List.{take_more, length-take-le, get_or-map}
use Rattle.ratio.specs.Products.{product, primes, numerator, denominator}
use Rattle.ratio.specs.declared.ratio.Ratio.{Ratio}
use Rattle.ratio.specs.Limits.{limits, Within}
use Rattle.ratio.proofs.Limits.{ratio_within}
use Rattle.ratio.proofs.Lowest.{primes_some}
use Rattle.ratio.proofs.Multiplicities.{product_push}

pub product_some : (ps ks : List ℕ) → AllByRecursion (λ p. 0 < p) ps → 1 ≤ product ps ks
product_some [] ks some = omega arith
product_some (p ∷ ps) [] some = omega arith
product_some (p ∷ ps) (k ∷ ks) some = one-le-mul (one-le-pow k p some.0) (product_some ps ks some.1)

-- the first factors make no more than all
front_less : (i : ℕ) (ps ks : List ℕ) → AllByRecursion (λ p. 0 < p) ps → product (take i ps) (take i ks) ≤ product ps ks
front_less zero ps ks some = product_some ps ks some
front_less (suc i) [] ks some = omega arith
front_less (suc i) (p ∷ ps) [] some = omega arith
front_less (suc i) (p ∷ ps) (k ∷ ks) some = mul-le-mul_left (p ^ k) (front_less i ps ks some.1)

module _ (es : List ℤ) (six : length es ≡ 6) (i : ℕ) (h : i < 6) where
  pub front_more : product (take (i + 1) primes) (take (i + 1) (map up es)) ≡ product (take i primes) (take i (map up es)) * get_or primes i 0 ^ up (get_or es i (pos 0))
  front_more =
      let l : length (map up es) ≡ 6 = length-map es up ∙ six in
      let a = take_more primes i 0 h in
      let b = take_more (map up es) i 0 (omega arith) in
      let e = get_or-map up es i (pos 0) 0 (omega arith) in
      let ls : length (take i primes) ≡ length (take i (map up es)) = length-take-le i primes (omega arith) ∙ sym (length-take-le i (map up es) (omega arith)) in
      let d = product_push (take i primes) (take i (map up es)) (get_or primes i 0) (get_or (map up es) i 0) ls in
      cc

  pub power_fits : (n : ℕ) → numerator es ≤ n → (get_or primes i 0 ^ up (get_or es i (pos 0)) ≤ n)
      × (product (take i primes) (take i (map up es)) * get_or primes i 0 ^ up (get_or es i (pos 0)) ≤ n)
  power_fits n le =
      let p : ℕ = get_or primes i 0 ^ up (get_or es i (pos 0)) in
      let f : ℕ = product (take i primes) (take i (map up es)) in
      let all = front_less (i + 1) primes (map up es) primes_some in
      let more = front_more in
      let some : 1 ≤ f = product_some (take i primes) (take i (map up es)) (All-take (λ q. 0 < q) i primes primes_some) in
      let one : 1 * p ≤ f * p = mul-le-mul_right p some in
      (omega arith, omega arith)

-- ---- upside down

pub up_neg : (e : ℤ) → up (neg_ℤ e) ≡ down e
up_neg (pos zero) = refl
up_neg (pos (suc n)) = refl
up_neg (negsuc n) = refl

pub down_neg : (e : ℤ) → down (neg_ℤ e) ≡ up e
down_neg (pos zero) = refl
down_neg (pos (suc n)) = refl
down_neg (negsuc n) = refl

ups_neg : (es : List ℤ) → map up (map neg_ℤ es) ≡ map down es
ups_neg [] = refl
ups_neg (e ∷ es) = cc (up_neg e, ups_neg es)

downs_neg : (es : List ℤ) → map down (map neg_ℤ es) ≡ map up es
downs_neg [] = refl
downs_neg (e ∷ es) = cc (down_neg e, downs_neg es)

-- one more exponent turned, and that it fits
pub turned : (e : ℤ) → nat_abs e ≤ 31 → SFits w8 (pos 0 -ℤ to_z w8 (of_z w8 e)) × (to_z w8 (of_z w8 (pos 0 -ℤ to_z w8 (of_z w8 e))) ≡ neg_ℤ e)
turned e small = (omega (arith, ints), omega (arith, ints))

within_at : (ls : List ℕ) (es : List ℤ) (i : ℕ) (d : ℤ) → Within ls es → i < length ls → i < length es → nat_abs (get_or es i d) ≤ get_or ls i 0
within_at [] es i d w h g = absurd (omega arith)
within_at (l ∷ ls) [] i d w h g = absurd (omega arith)
within_at (l ∷ ls) (e ∷ es) zero d w h g = w.0
within_at (l ∷ ls) (e ∷ es) (suc i) d w h g = within_at ls es i d w.1 (omega arith) (omega arith)

pub small_exponent : (r : Ratio) (i : ℕ) (d : ℤ) → i < 6 → nat_abs (get_or r.exponents i d) ≤ 31
small_exponent r i d h =
    let w = within_at limits r.exponents i d (ratio_within r) h (omega (arith, r.six)) in
    let l = All-get_or (λ n. n ≤ 31) limits i 0 h (omega arith, (omega arith, (omega arith, (omega arith, (omega arith, (omega arith, tt)))))) in
    omega arith

pub numerator_neg : (es : List ℤ) → numerator (map neg_ℤ es) ≡ denominator es
numerator_neg es = ap (product primes) (ups_neg es)

pub denominator_neg : (es : List ℤ) → denominator (map neg_ℤ es) ≡ numerator es
denominator_neg es = ap (product primes) (downs_neg es)

-- ---- an exponent as the code has it

-- what is no negative exponent is the power of its prime
pub up_counted : (e : ℤ) → FitsUnsignedBits 32 e → nat_abs e ≡ up e
up_counted (pos n) h = refl
up_counted (negsuc n) h = absurd h

pub up_none : (e : ℤ) → nat_abs e ≤ 31 → (FitsUnsignedBits 32 e → ⊥) → up e ≡ 0
up_none (pos n) small h = absurd (h (omega arith))
up_none (negsuc n) small h = refl

pub held : (e : ℤ) → nat_abs e ≤ 31 → to_z w8 (of_z w8 e) ≡ e
held e small = omega (arith, ints)
