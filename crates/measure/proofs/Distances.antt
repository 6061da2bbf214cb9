-- The distance by weights: as a sum over the primes, and what the weights' limits give.
use Rattle.std.proofs.Common.{Iter, ◌≡◌, ℕ, ◌+◌, ◌*◌, ◌<◌, ◌≤◌, List, [], ◌∷◌, map, sum, length, get_or, ℤ, sym, refl, ap, ◌∙◌, arith}
use Rattle.std.specs.List.{AllByRecursion, zip}
use Rattle.std.proofs.ByRecursion.{All-from_get_or}
use Rattle.std.specs.Slice.Iter.{iter_rest}
use Rattle.std.specs.Iterator.Adapters.{zip_first, zip_second}
use Rattle.std.specs.declared.iter.Zip.{Zip}
use Rattle.std.proofs.iter.Yields.{fronts}
use Rattle.std.proofs.lemmas.Iterator.{YieldsList, zips, YieldsList-from_slice, YieldsList-from_zip}
use Rattle.std.proofs.lemmas.List.{get_or_default}
use Rattle.std.proofs.lemmas.List.Sums.{sum_by-cons}
use Rattle.std.proofs.lemmas.Slice.Zip.{length-zip, get_or-zip}
use Rattle.ratio.specs.declared.ratio.Ratio.{Ratio}
use Rattle.ratio.proofs.Same.{same_ratio}
use Rattle.measure.specs.Apart.{apart}
use Rattle.measure.specs.Weights.{weighted}
use Rattle.measure.specs.declared.weighted.WeightedPrimes.{WeightedPrimes}
use Rattle.measure.specs.Laws.Sums.{weighted_only_zero}

-- a weight times how far apart the two exponents beside it are
abbrev pub part : ℕ × (ℤ × ℤ) → ℕ
part p = p.0 * apart p.1.0 p.1.1

pub sum-parts : (ws : List ℕ) (xs ys : List ℤ) → sum (map part (zip ws (zip xs ys))) ≡ weighted ws xs ys
sum-parts [] xs ys = refl
sum-parts (w ∷ ws) [] ys = refl
sum-parts (w ∷ ws) (x ∷ xs) [] = refl
sum-parts (w ∷ ws) (x ∷ xs) (y ∷ ys) =
    sum_by-cons (λ n. n) (w * apart x y) (map part (zip ws (zip xs ys))) ∙ ap (λ n. w * apart x y + n) (sum-parts ws xs ys)

-- three slices read place by place
pub places : {A B C : Type 0} {s : Zip (Iter A) (Zip (Iter B) (Iter C))} (xs : List A) (ys : List B) (zs : List C) → iter_rest (zip_first s) ≡ xs → iter_rest (zip_first (zip_second s)) ≡ ys → iter_rest (zip_second (zip_second s)) ≡ zs
    → YieldsList (zips fronts (zips fronts fronts)) (λ p. (p.0.now, (p.1.0.now, p.1.1.now))) s (zip xs (zip ys zs))
places xs ys zs h i j = YieldsList-from_zip (YieldsList-from_slice xs h) (YieldsList-from_zip (YieldsList-from_slice ys i) (YieldsList-from_slice zs j))

-- the weight at a place of the list is at most 1,000,000
pub small_at : {X : Type 0} (m : WeightedPrimes) (xs : List X) (k : ℕ) (p : ℕ × X) → k < length (zip m.weights xs) → p ≡ get_or (zip m.weights xs) k p → p.0 ≤ 1000000
small_at {X} m xs k p h read =
    let both = length-zip m.weights xs in
    let within : k < length m.weights = omega arith in
    let at = read ∙ get_or-zip m.weights xs k p within (omega arith) in
    let weight : p.0 ≡ get_or m.weights k p.0 = ap (λ (q : ℕ × X). q.0) at in
    omega (arith, weight, get_or_default m.weights k p.0 0 within, (m.allowed k within).1)

large : (m : WeightedPrimes) → AllByRecursion (λ w. 1 ≤ w) m.weights
large m = All-from_get_or (λ w. 1 ≤ w) m.weights 0 (λ i h. (m.allowed i h).0)

-- no distance between two ratios: they are one
pub only_zero : (m : WeightedPrimes) (a b : Ratio) → weighted m.weights a.exponents b.exponents ≡ 0 → a ≡ b
only_zero m a b none =
    same_ratio a b (weighted_only_zero m.weights a.exponents b.exponents (large m) (a.six ∙ sym m.six) (b.six ∙ sym m.six) none)
