-- The distance by weights is bounded, by the weights' limits and the ratios' limits.
use Rattle.std.proofs.Common.{◌≡◌, ℕ, ◌≤◌, List, length, take, ap, arith, take_all}
use Rattle.std.specs.List.{AllByRecursion}
use Rattle.std.proofs.ByRecursion.{All-from_get_or}
use Rattle.ratio.specs.declared.ratio.Ratio.{Ratio}
use Rattle.ratio.specs.Limits.{limits}
use Rattle.ratio.proofs.Limits.{ratio_within}
use Rattle.measure.specs.Weights.{Allowed, weighted, weighted_distance}
use Rattle.measure.specs.Laws.Sums.{weighted_within}

small : (ws : List ℕ) → Allowed ws → AllByRecursion (λ w. w ≤ 1000000) ws
small ws allowed = All-from_get_or (λ w. w ≤ 1000000) ws 0 (λ i h. (allowed i h).1)

-- over some of the primes the distance is at most 184,000,000
pub weights_within : (ws : List ℕ) → Allowed ws → (a b : Ratio) (k : ℕ) → weighted (take k ws) a.exponents b.exponents ≤ 184000000
weights_within ws allowed a b k =
    weighted_within k ws a.exponents b.exponents limits (small ws allowed) (omega (arith, a.six)) (ratio_within a) (ratio_within b)

-- the distance is at most what a measure allows
pub weighted_bounded : (ws : List ℕ) → length ws ≡ 6 → Allowed ws → (a b : Ratio) → weighted_distance ws a b ≤ 1073741824
weighted_bounded ws six allowed a b =
    let all = ap (λ l. weighted l a.exponents b.exponents) (take_all 6 ws (omega (arith, six))) in
    omega (arith, all, weights_within ws allowed a b 6)
