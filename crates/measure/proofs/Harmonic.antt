-- The distance by weights is the harmonic distance; disharmonicity over products and parts. Assumes nothing.
use Rattle.std.proofs.Common.{◌≡◌, ℕ, zero, suc, ◌+◌, ◌*◌, ◌^◌, ◌<◌, List, [], ◌∷◌, map, length, ℤ, pos, negsuc, ◌-ℤ◌, neg_ℤ, nat_abs, sym, refl, ap, ◌∙◌, mul_comm, add-mul, mul-pos, one-mul, mul-one, arith, rules}
use native.Mathlib.Nat.{pow-zero, pow-succ'}
use Rattle.std.specs.List.{AllByRecursion, zip}
use Rattle.std.proofs.lemmas.List.{length-map}
use Rattle.std.proofs.lemmas.Simd.{map-map}
use Rattle.std.proofs.lemmas.Slice.Zip.{length-zip}
use borrow.Author.Differences.{up, down}
use Rattle.std.proofs.lemmas.Int.{ints}
use Rattle.std.proofs.Math.Nat.{dvd-mul_right, eq-one_of_dvd-one}
use Rattle.ratio.specs.declared.ratio.Ratio.{Ratio}
use Rattle.ratio.specs.Products.{primes, product, numerator, denominator}
use Rattle.ratio.specs.Entry.{Quotient}
use Rattle.ratio.specs.Parts.{unison}
use Rattle.ratio.proofs.Factoring.{plus, length_plus, product_plus}
use Rattle.ratio.proofs.Entered.{quotient_once}
use Rattle.ratio.proofs.Coprime.{no_common}
use Rattle.ratio.proofs.Terms.{numerator_neg, denominator_neg, product_some}
use Rattle.ratio.proofs.Lowest.{primes_some}
use Rattle.measure.specs.Apart.{apart}
use Rattle.measure.specs.Weights.{weighted, weighted_distance}
use Rattle.measure.specs.Harmonic.{sum_by_primes, Disharmonicity, HarmonicDistance, Additive, SumOfParts}

-- the exponents of a quotient of two ratios
abbrev pub less : List ℤ → List ℤ → List ℤ
less xs ys = map (λ (p : ℤ × ℤ). p.0 -ℤ p.1) (zip xs ys)

length_less : (xs ys : List ℤ) (n : ℕ) → length xs ≡ n → length ys ≡ n → length (less xs ys) ≡ n
length_less xs ys n h i = omega (arith, length-map (zip xs ys) (λ (p : ℤ × ℤ). p.0 -ℤ p.1), length-zip xs ys)

balance : (x y : ℤ) → (up x + down y) + down (x -ℤ y) ≡ (down x + up y) + up (x -ℤ y)
balance x y = omega (arith, ints)

balanced : (xs ys : List ℤ) → length xs ≡ length ys
    → plus (plus (map up xs) (map down ys)) (map down (less xs ys)) ≡ plus (plus (map down xs) (map up ys)) (map up (less xs ys))
balanced [] [] h = refl
balanced [] (y ∷ ys) h = absurd (omega arith)
balanced (x ∷ xs) [] h = absurd (omega arith)
balanced (x ∷ xs) (y ∷ ys) h = cc (balance x y, balanced xs ys (omega arith))

three : (is js ks : List ℕ) → length is ≡ 6 → length js ≡ 6 → length ks ≡ 6
    → (product primes is * product primes js) * product primes ks ≡ product primes (plus (plus is js) ks)
three is js ks li lj lk =
    ap (λ n. n * product primes ks) (product_plus primes is js li lj) ∙ product_plus primes (plus is js) ks (length_plus is js 6 li lj) lk

mapped_six : (f : ℤ → ℕ) (es : List ℤ) → length es ≡ 6 → length (map f es) ≡ 6
mapped_six f es l = length-map es f ∙ l

pub quotient_of : (a b : List ℤ) → length a ≡ 6 → length b ≡ 6 → Quotient (numerator a * denominator b) (denominator a * numerator b) (less a b)
quotient_of a b la lb =
    let lc = length_less a b 6 la lb in
    three (map up a) (map down b) (map down (less a b)) (mapped_six up a la) (mapped_six down b lb) (mapped_six down (less a b) lc)
    ∙ (ap (product primes) (balanced a b (la ∙ sym lb))
    ∙ sym (three (map down a) (map up b) (map up (less a b)) (mapped_six down a la) (mapped_six up b lb) (mapped_six up (less a b) lc)))

-- ---- the harmonic distance

pub weighted_sum : (ws : List ℕ) (xs ys : List ℤ) → weighted ws xs ys ≡ sum_by_primes ws (less xs ys)
weighted_sum [] xs ys = refl
weighted_sum (w ∷ ws) [] ys = refl
weighted_sum (w ∷ ws) (x ∷ xs) [] = refl
weighted_sum (w ∷ ws) (x ∷ xs) (y ∷ ys) = omega (arith, mul_comm w (apart x y), weighted_sum ws xs ys)

pub harmonic : (ws : List ℕ) (x y : Ratio) → HarmonicDistance ws x y (weighted_distance ws x y)
harmonic ws x y = record {
  powers = less x.exponents y.exponents;
  six = length_less x.exponents y.exponents 6 x.six y.six;
  factors = quotient_of x.exponents y.exponents x.six y.six;
  sum = weighted_sum ws x.exponents y.exponents;
}

-- a rational number has one disharmonicity
pub disharmonicity_once : (ws : List ℕ) (n d g h : ℕ) → 0 < n → 0 < d → Disharmonicity ws n d g → Disharmonicity ws n d h → g ≡ h
disharmonicity_once ws n d g h hn hd p q =
    p.sum ∙ (ap (sum_by_primes ws) (quotient_once n d p.powers q.powers hn hd p.six q.six p.factors q.factors) ∙ sym q.sum)

parts_some : (x y : Ratio) → (0 < numerator x.exponents * denominator y.exponents) × (0 < denominator x.exponents * numerator y.exponents)
parts_some x y =
    let some : (f : ℤ → ℕ) (r : Ratio) → 0 < product primes (map f r.exponents) = λ f r. product_some primes (map f r.exponents) primes_some in
    (mul-pos (some up x) (some down y), mul-pos (some down x) (some up y))

pub harmonic_once : (ws : List ℕ) (x y : Ratio) (g : ℕ) → HarmonicDistance ws x y g → g ≡ weighted_distance ws x y
harmonic_once ws x y g p =
    let some = parts_some x y in
    disharmonicity_once ws _ _ g _ some.0 some.1 p (harmonic ws x y)

-- ---- whole numbers

abbrev NonNegative : List ℤ → Type 0
NonNegative es = AllByRecursion (λ e. down e ≡ 0) es

factor_one : (m n : ℕ) → m * n ≡ 1 → m ≡ 1
factor_one m n e = eq-one_of_dvd-one (rw e at (dvd-mul_right m n))

no_power : (p k : ℕ) → 1 < p → p ^ k ≡ 1 → k ≡ 0
no_power p zero big e = refl
no_power p (suc k) big e = absurd (omega (arith, factor_one p (p ^ k) (sym (pow-succ' p k) ∙ e)))

nothing_below : (ps : List ℕ) (es : List ℤ) → AllByRecursion (λ p. 1 < p) ps → length es ≡ length ps → product ps (map down es) ≡ 1 → NonNegative es
nothing_below [] [] big l e = tt
nothing_below [] (x ∷ es) big l e = absurd (omega arith)
nothing_below (p ∷ ps) [] big l e = absurd (omega arith)
nothing_below (p ∷ ps) (x ∷ es) big l e =
    let power = factor_one (p ^ down x) (product ps (map down es)) e in
    let rest = factor_one (product ps (map down es)) (p ^ down x) (mul_comm (product ps (map down es)) (p ^ down x) ∙ e) in
    (no_power p (down x) big.0 power, nothing_below ps es big.1 (omega arith) rest)

-- the exponents of a whole number are none of them negative
whole : (x : ℕ) (a : List ℤ) → length a ≡ 6 → Quotient x 1 a → (x ≡ numerator a) × (denominator a ≡ 1)
whole x a six q =
    let one : denominator a ≡ 1 = no_common a six (denominator a) x 1 (sym (one-mul (numerator a)) ∙ (sym q ∙ mul_comm x (denominator a))) (sym (mul-one (denominator a))) in
    (sym (mul-one x) ∙ (ap (λ n. x * n) (sym one) ∙ (q ∙ one-mul (numerator a))), one)

sizes_add : (x y : ℤ) → down x ≡ 0 → down y ≡ 0 → nat_abs (x -ℤ neg_ℤ y) ≡ nat_abs x + nat_abs y
sizes_add x y p q = omega (arith, ints)

sums_add : (ws : List ℕ) (a b : List ℤ) → length a ≡ length b → NonNegative a → NonNegative b
    → sum_by_primes ws (less a (map neg_ℤ b)) ≡ sum_by_primes ws a + sum_by_primes ws b
sums_add [] a b l p q = refl
sums_add (w ∷ ws) [] [] l p q = refl
sums_add (w ∷ ws) [] (y ∷ b) l p q = absurd (omega arith)
sums_add (w ∷ ws) (x ∷ a) [] l p q = absurd (omega arith)
sums_add (w ∷ ws) (x ∷ a) (y ∷ b) l p q =
    let here = ap (λ n. n * w) (sizes_add x y p.0 q.0) ∙ add-mul (nat_abs x) (nat_abs y) w in
    omega (arith, here, sums_add ws a b (omega arith) p.1 q.1)

multiplied : (x y a b c d m n : ℕ) → x ≡ a → y ≡ b → c ≡ 1 → d ≡ 1 → (a * b) * m ≡ (c * d) * n → (x * y) * m ≡ 1 * n
multiplied x y a b c d m n ex ey ec ed e = rw (ex, ey) (rw (ec, ed) at e)

primes_large : AllByRecursion (λ p. 1 < p) primes
primes_large = search rules

pub additive : (ws : List ℕ) → Additive ws
additive ws x y g h p q =
    let a = p.powers in
    let b = q.powers in
    let nb : length (map neg_ℤ b) ≡ 6 = length-map b neg_ℤ ∙ q.six in
    let wa = whole x a p.six p.factors in
    let wb = whole y b q.six q.factors in
    let at = quotient_of a (map neg_ℤ b) p.six nb in
    record {
      powers = less a (map neg_ℤ b);
      six = length_less a (map neg_ℤ b) 6 p.six nb;
      factors = multiplied x y _ _ _ _ _ _ wa.0 (wb.0 ∙ sym (denominator_neg b)) wa.1 (numerator_neg b ∙ wb.1) at;
      sum = cc (p.sum, q.sum, sums_add ws a b (p.six ∙ sym q.six) (nothing_below primes a primes_large p.six wa.1) (nothing_below primes b primes_large q.six wb.1));
    }

-- ---- the two parts of a ratio

-- a whole number by the powers f of its primes
abbrev lifted : (ℤ → ℕ) → List ℤ → List ℤ
lifted f es = map (λ e. pos (f e)) es

lifted_down : (f : ℤ → ℕ) (ps : List ℕ) (es : List ℤ) → product ps (map down (lifted f es)) ≡ 1
lifted_down f [] es = refl
lifted_down f (p ∷ ps) [] = refl
lifted_down f (p ∷ ps) (e ∷ es) = ap (λ n. p ^ 0 * n) (lifted_down f ps es) ∙ (mul-one (p ^ 0) ∙ pow-zero p)

of_whole : (ws : List ℕ) (f : ℤ → ℕ) (es : List ℤ) → length es ≡ 6 → Disharmonicity ws (product primes (map f es)) 1 (sum_by_primes ws (lifted f es))
of_whole ws f es six = record {
  powers = lifted f es;
  six = length-map es (λ e. pos (f e)) ∙ six;
  factors = ap (λ n. product primes (map f es) * n) (lifted_down f primes es) ∙ (mul-one (product primes (map f es)) ∙ (sym (ap (product primes) (map-map up (λ e. pos (f e)) es)) ∙ sym (one-mul (numerator (lifted f es)))));
  sum = refl;
}

both_sides : (e : ℤ) → nat_abs e ≡ up e + down e
both_sides (pos n) = omega arith
both_sides (negsuc n) = omega arith

sum_of_sides : (ws : List ℕ) (es : List ℤ) → sum_by_primes ws es ≡ sum_by_primes ws (lifted up es) + sum_by_primes ws (lifted down es)
sum_of_sides [] es = refl
sum_of_sides (w ∷ ws) [] = refl
sum_of_sides (w ∷ ws) (e ∷ es) =
    let here = ap (λ n. n * w) (both_sides e) ∙ add-mul (up e) (down e) w in
    omega (arith, here, sum_of_sides ws es)

pub sum_of_parts : (ws : List ℕ) (es : List ℤ) (g : ℕ) → length es ≡ 6 → g ≡ sum_by_primes ws es → SumOfParts ws (numerator es) (denominator es) g
sum_of_parts ws es g six e = record {
  above = sum_by_primes ws (lifted up es);
  below = sum_by_primes ws (lifted down es);
  of_numerator = of_whole ws up es six;
  of_denominator = of_whole ws down es six;
  sum = e ∙ sum_of_sides ws es;
}

from_none : (e : ℤ) → apart (pos 0) e ≡ nat_abs e
from_none e = omega (arith, ints)

from_zero : (ws : List ℕ) (zs es : List ℤ) → AllByRecursion (λ z. z ≡ pos 0) zs → length zs ≡ length es → weighted ws zs es ≡ sum_by_primes ws es
from_zero [] zs es z l = refl
from_zero (w ∷ ws) [] [] z l = refl
from_zero (w ∷ ws) [] (e ∷ es) z l = absurd (omega arith)
from_zero (w ∷ ws) (x ∷ zs) [] z l = absurd (omega arith)
from_zero (w ∷ ws) (x ∷ zs) (e ∷ es) z l =
    let size = ap (λ v. apart v e) z.0 ∙ from_none e in
    omega (arith, ap (λ n. w * n) size, mul_comm w (nat_abs e), from_zero ws zs es z.1 (omega arith))

pub disharmonic : (ws : List ℕ) (r : Ratio) → weighted_distance ws unison r ≡ sum_by_primes ws r.exponents
disharmonic ws r = from_zero ws unison.exponents r.exponents (refl, (refl, (refl, (refl, (refl, (refl, tt)))))) (sym r.six)
