-- A pitch place by place, and how far from zero it can lie.
use Rattle.std.proofs.Common.{◌≡◌, ℕ, zero, suc, ◌+◌, ◌*◌, ◌<◌, ◌≤◌, List, [], ◌∷◌, length, get_or, take, ℤ, pos, negsuc, ◌+ℤ◌, ◌*ℤ◌, neg_ℤ, nat_abs, sym, refl, ap, ◌∙◌, mul-le-mul_left, add-one, arith, w8, w32, SFits, to_z, of_z}
use borrow.Author.Differences.{abs_is, neg_is}
use lib.IntN.{+ℤ_comm, +ℤ_assoc}
use Rattle.std.proofs.ByRecursion.{All-get_or}
use Rattle.std.proofs.lemmas.Int.{ints}
use Rattle.ratio.specs.Limits.{limits, Within}
use Rattle.ratio.specs.Pitches.{prime_pitches, sum_of_pitches, ratio_pitch}
use Rattle.ratio.specs.declared.ratio.Ratio.{Ratio}
use Rattle.ratio.proofs.Limits.{ratio_within}
use Rattle.ratio.proofs.Terms.{small_exponent}

-- the same sum with each exponent at its limit
abbrev largest : List ℤ → List ℕ → ℕ
largest [] ls = 0
largest (p ∷ ps) [] = 0
largest (p ∷ ps) (l ∷ ls) = nat_abs p * l + largest ps ls

sum_suc : (k : ℕ) (ps es : List ℤ) → k < length ps → k < length es
    → sum_of_pitches (take (suc k) ps) es ≡ sum_of_pitches (take k ps) es +ℤ (get_or ps k (pos 0) *ℤ get_or es k (pos 0))
sum_suc k [] es h i = absurd (omega arith)
sum_suc k (p ∷ ps) [] h i = absurd (omega arith)
sum_suc zero (p ∷ ps) (e ∷ es) h i = +ℤ_comm (p *ℤ e) (pos 0)
sum_suc (suc k) (p ∷ ps) (e ∷ es) h i =
    ap (λ z. (p *ℤ e) +ℤ z) (sum_suc k ps es (omega arith) (omega arith)) ∙ sym (+ℤ_assoc (p *ℤ e) _ _)

size_of_sum : (x y : ℤ) → nat_abs (x +ℤ y) ≤ nat_abs x + nat_abs y
size_of_sum x y = omega (arith, ints)

size_of_product : (x y : ℤ) → nat_abs (x *ℤ y) ≡ nat_abs x * nat_abs y
size_of_product (pos a) (pos b) = refl
size_of_product (pos a) (negsuc b) = omega (arith, abs_is (neg_ℤ (pos (a * suc b))), neg_is (pos (a * suc b)))
size_of_product (negsuc a) (pos b) = omega (arith, abs_is (neg_ℤ (pos (suc a * b))), neg_is (pos (suc a * b)))
size_of_product (negsuc a) (negsuc b) = refl

-- over some of the places the sum is within the largest
sum_within : (k : ℕ) (ps es : List ℤ) (ls : List ℕ) → length es ≤ length ls → Within ls es → nat_abs (sum_of_pitches (take k ps) es) ≤ largest ps ls
sum_within zero ps es ls n h = omega arith
sum_within (suc k) [] es ls n h = omega arith
sum_within (suc k) (p ∷ ps) [] ls n h = omega arith
sum_within (suc k) (p ∷ ps) (e ∷ es) [] n h = absurd (omega arith)
sum_within (suc k) (p ∷ ps) (e ∷ es) (l ∷ ls) n h =
    omega (arith, size_of_sum (p *ℤ e) (sum_of_pitches (take k ps) es), size_of_product p e, mul-le-mul_left (nat_abs p) h.0, sum_within k ps es ls (omega arith) h.1)

partly_within : (r : Ratio) (k : ℕ) → nat_abs (sum_of_pitches (take k prime_pitches) r.exponents) ≤ 221404354
partly_within r k = sum_within k prime_pitches r.exponents limits (omega (arith, r.six)) (ratio_within r)

-- a pitch lies within 221,404,354 thousandths of a cent of 1/1
pub pitch_within : (r : Ratio) → nat_abs (ratio_pitch r) ≤ 221404354
pitch_within r = partly_within r 6

pitch_small : (k : ℕ) → k < 6 → nat_abs (get_or prime_pitches k (pos 0)) ≤ 4440528
pitch_small k h =
    All-get_or (λ p. nat_abs p ≤ 4440528) prime_pitches k (pos 0) h (omega arith, (omega arith, (omega arith, (omega arith, (omega arith, (omega arith, tt))))))

-- a number to its bits and back
abbrev pub held : ℤ → ℤ
held z = to_z w32 (of_z w32 z)

-- one more place, as the code adds it: its part fits, the sum with it fits, and that is the next sum
pub sum_next : (r : Ratio) (k : ℕ) (total pitch exponent given : ℤ) → k < 6 → total ≡ sum_of_pitches (take k prime_pitches) r.exponents
    → pitch ≡ get_or prime_pitches k (pos 0) → exponent ≡ get_or r.exponents k (pos 0) → given ≡ to_z w8 (of_z w8 exponent)
    → let part : ℤ = held pitch *ℤ held given in
    let sum : ℤ = total +ℤ held part in
    SFits w32 part × (SFits w32 sum × (held sum ≡ sum_of_pitches (take (k + 1) prime_pitches) r.exponents))
sum_next r k total pitch exponent given h before p e g =
    let next : total +ℤ (pitch *ℤ exponent) ≡ sum_of_pitches (take (k + 1) prime_pitches) r.exponents =
    rw add-one (cc (sum_suc k prime_pitches r.exponents h (omega (arith, r.six)))) in
    let low : nat_abs total ≤ 221404354 = rw before (partly_within r k) in
    let high : nat_abs (total +ℤ (pitch *ℤ exponent)) ≤ 221404354 = rw next (partly_within r (k + 1)) in
    let p_small : nat_abs pitch ≤ 4440528 = rw p (pitch_small k h) in
    let e_small : nat_abs exponent ≤ 31 = rw e (small_exponent r k (pos 0) h) in
    let p_is : held pitch ≡ pitch = omega (arith, ints) in
    let e_is : held given ≡ exponent = omega (arith, ints) in
    let part_is : held (pitch *ℤ exponent) ≡ pitch *ℤ exponent = omega (arith, ints) in
    let sum_is : held (total +ℤ (pitch *ℤ exponent)) ≡ total +ℤ (pitch *ℤ exponent) = omega (arith, ints) in
    rw (p_is, e_is, part_is, sum_is) (omega (arith, ints), (omega (arith, ints), next))
