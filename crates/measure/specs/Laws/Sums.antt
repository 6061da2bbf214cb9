-- The sum of weights times distances, place by place: it is a distance, it is bounded, and it tells lists apart.
use Rattle.std.specs.Prelude.{◌≡◌, ℕ, zero, suc, ◌+◌, ◌*◌, ◌<◌, ◌≤◌, List, [], ◌∷◌, length, take, ℤ, pos, slice_index, slice_index_or, refl}
use Rattle.std.proofs.Common.{mul-zero, mul-add, mul-le-mul, mul-le-mul_left, mul-le-mul_right, add-one, arith}
use Rattle.std.specs.List.{AllByRecursion}
use Rattle.ratio.specs.Limits.{Within}
use Rattle.measure.specs.Apart.{apart}
use Rattle.measure.specs.Weights.{weighted}
use Rattle.measure.specs.Laws.Apart.{apart_zero, apart_both, apart_triangle, apart_bounded, apart_only_zero}

pub weighted_zero : (ws : List ℕ) (xs : List ℤ) → weighted ws xs xs ≡ 0
weighted_zero [] xs = refl
weighted_zero (w ∷ ws) [] = refl
weighted_zero (w ∷ ws) (x ∷ xs) = rw (apart_zero x, weighted_zero ws xs) (omega (arith, mul-zero w))

pub weighted_both : (ws : List ℕ) (xs ys : List ℤ) → weighted ws xs ys ≡ weighted ws ys xs
weighted_both [] xs ys = refl
weighted_both (w ∷ ws) [] [] = refl
weighted_both (w ∷ ws) [] (y ∷ ys) = refl
weighted_both (w ∷ ws) (x ∷ xs) [] = refl
weighted_both (w ∷ ws) (x ∷ xs) (y ∷ ys) = rw (apart_both x y, weighted_both ws xs ys)

pub weighted_triangle : (ws : List ℕ) (xs ys zs : List ℤ) → length ws ≤ length ys → weighted ws xs zs ≤ weighted ws xs ys + weighted ws ys zs
weighted_triangle [] xs ys zs h = omega arith
weighted_triangle (w ∷ ws) [] ys zs h = omega arith
weighted_triangle (w ∷ ws) (x ∷ xs) ys [] h = omega arith
weighted_triangle (w ∷ ws) (x ∷ xs) [] (z ∷ zs) h = absurd (omega arith)
weighted_triangle (w ∷ ws) (x ∷ xs) (y ∷ ys) (z ∷ zs) h =
    omega (arith, mul-le-mul_left w (apart_triangle x y z), mul-add w (apart x y) (apart y z), weighted_triangle ws xs ys zs (omega arith))

pub weighted_only_zero : (ws : List ℕ) (xs ys : List ℤ) → AllByRecursion (λ w. 1 ≤ w) ws → length xs ≡ length ws → length ys ≡ length ws → weighted ws xs ys ≡ 0 → xs ≡ ys
weighted_only_zero [] [] [] some h i none = refl
weighted_only_zero [] [] (y ∷ ys) some h i none = absurd (omega arith)
weighted_only_zero [] (x ∷ xs) ys some h i none = absurd (omega arith)
weighted_only_zero (w ∷ ws) [] ys some h i none = absurd (omega arith)
weighted_only_zero (w ∷ ws) (x ∷ xs) [] some h i none = absurd (omega arith)
weighted_only_zero (w ∷ ws) (x ∷ xs) (y ∷ ys) some h i none =
    let here : x ≡ y = apart_only_zero x y (omega (arith, mul-le-mul_right (apart x y) some.0)) in
    let rest : xs ≡ ys = weighted_only_zero ws xs ys some.1 (omega arith) (omega arith) (omega arith) in
    cc

-- the sum with each weight at 1,000,000 and the two exponents at their limits, one above zero and one below
abbrev largest : List ℕ → ℕ
largest [] = 0
largest (l ∷ ls) = 1000000 * (l + l) + largest ls

-- over some of the places the sum is within the largest
pub weighted_within : (k : ℕ) (ws : List ℕ) (xs ys : List ℤ) (ls : List ℕ) → AllByRecursion (λ w. w ≤ 1000000) ws → length xs ≤ length ls → Within ls xs → Within ls ys
    → weighted (take k ws) xs ys ≤ largest ls
weighted_within zero ws xs ys ls small n h i = omega arith
weighted_within (suc k) [] xs ys ls small n h i = omega arith
weighted_within (suc k) (w ∷ ws) [] ys ls small n h i = omega arith
weighted_within (suc k) (w ∷ ws) (x ∷ xs) [] ls small n h i = omega arith
weighted_within (suc k) (w ∷ ws) (x ∷ xs) (y ∷ ys) [] small n h i = absurd (omega arith)
weighted_within (suc k) (w ∷ ws) (x ∷ xs) (y ∷ ys) (l ∷ ls) small n h i =
    omega (arith, mul-le-mul small.0 (apart_bounded x y l l h.0 i.0), weighted_within k ws xs ys ls small.1 (omega arith) h.1 i.1)

weighted_suc : (k : ℕ) (ws : List ℕ) (xs ys : List ℤ) → k < length ws → k < length xs → k < length ys
    → weighted (take (suc k) ws) xs ys ≡ weighted (take k ws) xs ys + slice_index ws k * apart (slice_index_or xs k (pos 0)) (slice_index_or ys k (pos 0))
weighted_suc k [] xs ys h i j = absurd (omega arith)
weighted_suc k (w ∷ ws) [] ys h i j = absurd (omega arith)
weighted_suc k (w ∷ ws) (x ∷ xs) [] h i j = absurd (omega arith)
weighted_suc zero (w ∷ ws) (x ∷ xs) (y ∷ ys) h i j = omega arith
weighted_suc (suc k) (w ∷ ws) (x ∷ xs) (y ∷ ys) h i j =
    let rest = weighted_suc k ws xs ys (omega arith) (omega arith) (omega arith) in
    omega arith

-- one more place
pub weighted_next : (k : ℕ) (ws : List ℕ) (xs ys : List ℤ) → k < length ws → k < length xs → k < length ys
    → weighted (take (k + 1) ws) xs ys ≡ weighted (take k ws) xs ys + slice_index ws k * apart (slice_index_or xs k (pos 0)) (slice_index_or ys k (pos 0))
weighted_next k ws xs ys h i j = rw add-one (weighted_suc k ws xs ys h i j)
