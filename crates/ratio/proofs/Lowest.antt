-- The exponents of a quotient: there is at most one set of them, and it is the difference of the multiplicities.
-- Assumes nothing.
use Rattle.std.proofs.Common.{◌≡◌, ℕ, zero, suc, ◌+◌, ◌*◌, ◌<◌, ◌≤◌, min, List, [], ◌∷◌, map, length, ℤ, pos, negsuc, ◌-ℤ◌, sym, refl, ap, ◌∙◌, mul-le-mul, mul-le-mul_left, mul-one, arith}
use native.Mathlib.Nat.{pow-le-pow_right}
use lib.ListN.{length-map}
use borrow.Author.Differences.{up, down, same_in}
use Rattle.std.specs.List.{AllZip, AllByRecursion}
use Rattle.std.proofs.lemmas.Int.{ints}
use Rattle.ratio.specs.Products.{product, primes, numerator, denominator}
use Rattle.ratio.specs.Factors.{Without, minus}
use Rattle.ratio.proofs.Divides.{Distinct, primes_distinct}
use Rattle.ratio.proofs.Factoring.{Factored, misses_one, misses_some, same_product, plus, length_plus, product_plus}

without_one : (ps : List ℕ) → Distinct ps → Without ps 1
without_one [] d = tt
without_one (p ∷ ps) d = (misses_one d.0, without_one ps d.1.1.1)

balance : (x y : ℕ) → x + down (pos x -ℤ pos y) ≡ y + up (pos x -ℤ pos y)
balance x y = omega (arith, ints)

pub length_minus : (xs ys : List ℕ) (n : ℕ) → length xs ≡ n → length ys ≡ n → length (minus xs ys) ≡ n
length_minus [] ys n h i = h
length_minus (x ∷ xs) [] n h i = absurd (omega arith)
length_minus (x ∷ xs) (y ∷ ys) zero h i = absurd (omega arith)
length_minus (x ∷ xs) (y ∷ ys) (suc n) h i = ap suc (length_minus xs ys n (omega arith) (omega arith))

balanced : (xs ys : List ℕ) → length xs ≡ length ys → plus xs (map down (minus xs ys)) ≡ plus ys (map up (minus xs ys))
balanced [] [] h = refl
balanced [] (y ∷ ys) h = absurd (omega arith)
balanced (x ∷ xs) [] h = absurd (omega arith)
balanced (x ∷ xs) (y ∷ ys) h = cc (balance x y, balanced xs ys (omega arith))

same_from_balance : (a b : List ℤ) → length a ≡ length b → plus (map up a) (map down b) ≡ plus (map up b) (map down a) → a ≡ b
same_from_balance [] [] h e = refl
same_from_balance [] (y ∷ b) h e = absurd (omega arith)
same_from_balance (x ∷ a) [] h e = absurd (omega arith)
same_from_balance (x ∷ a) (y ∷ b) h e =
    let here : up x + down y ≡ up y + down x = cc in
    let there : plus (map up a) (map down b) ≡ plus (map up b) (map down a) = cc in
    cc (same_in x y here, same_from_balance a b (omega arith) there)

-- ---- a quotient has one set of exponents

pub same_exponents : (a b : List ℤ) → length a ≡ 6 → length b ≡ 6 → numerator a * denominator b ≡ numerator b * denominator a → a ≡ b
same_exponents a b la lb e =
    let ua : length (map up a) ≡ 6 = length-map a up ∙ la in
    let da : length (map down a) ≡ 6 = length-map a down ∙ la in
    let ub : length (map up b) ≡ 6 = length-map b up ∙ lb in
    let db : length (map down b) ≡ 6 = length-map b down ∙ lb in
    let w = without_one primes primes_distinct in
    let l = product_plus primes (map up a) (map down b) ua db in
    let r = product_plus primes (map up b) (map down a) ub da in
    let s : product primes (plus (map up a) (map down b)) * 1 ≡ product primes (plus (map up b) (map down a)) * 1 =
    ap (λ n. n * 1) (sym l ∙ (e ∙ r)) in
    same_from_balance a b (la ∙ sym lb)
    (same_product primes primes_distinct (plus (map up a) (map down b)) (plus (map up b) (map down a))
    (length_plus (map up a) (map down b) 6 ua db) (length_plus (map up b) (map down a) 6 ub da) 1 1 w w s).0

-- ---- two numbers, by their multiplicities and rests

times_more : (a b u : ℕ) → (a * u) * b ≡ (a * b) * u
times_more a b u = grind arith

module _ (n d : ℕ) (xs ys : List ℕ) (u v : ℕ) (above : Factored n xs u) (below : Factored d ys v) where
  crossed : (ks zs : List ℕ) (m w : ℕ) → length ks ≡ 6 → Factored m zs w → m * product primes ks ≡ product primes (plus zs ks) * w
  crossed ks zs m w lk f =
      ap (λ k. k * product primes ks) f.parts ∙ (times_more (product primes zs) (product primes ks) w ∙ ap (λ k. k * w) (product_plus primes zs ks f.six lk))

  -- only equal rests leave a quotient of the six primes
  pub rests_same : (e : List ℤ) → length e ≡ 6 → n * denominator e ≡ d * numerator e → u ≡ v
  rests_same e six same =
      let de : length (map down e) ≡ 6 = length-map e down ∙ six in
      let ue : length (map up e) ≡ 6 = length-map e up ∙ six in
      (same_product primes primes_distinct (plus xs (map down e)) (plus ys (map up e))
      (length_plus xs (map down e) 6 above.six de) (length_plus ys (map up e) 6 below.six ue) u v above.left below.left
      (sym (crossed (map down e) xs n u de above) ∙ (same ∙ crossed (map up e) ys d v ue below))).1

  -- and then the differences of the multiplicities are its exponents
  pub minus_six : length (minus xs ys) ≡ 6
  minus_six = length_minus xs ys 6 above.six below.six

  pub quotient_is : u ≡ v → n * denominator (minus xs ys) ≡ d * numerator (minus xs ys)
  quotient_is same =
      let dm : length (map down (minus xs ys)) ≡ 6 = length-map (minus xs ys) down ∙ minus_six in
      let um : length (map up (minus xs ys)) ≡ 6 = length-map (minus xs ys) up ∙ minus_six in
      let a = crossed (map down (minus xs ys)) xs n u dm above in
      let b = crossed (map up (minus xs ys)) ys d v um below in
      let c = balanced xs ys (above.six ∙ sym below.six) in
      cc

-- ---- cancelling makes the parts no larger

one_side : (z : ℤ) → min (up z) (down z) ≡ 0
one_side (pos n) = omega arith
one_side (negsuc n) = omega arith

up_less : (x y : ℕ) → up (pos x -ℤ pos y) ≤ x
up_less x y = omega (arith, balance x y, one_side (pos x -ℤ pos y))

down_less : (x y : ℕ) → down (pos x -ℤ pos y) ≤ y
down_less x y = omega (arith, balance x y, one_side (pos x -ℤ pos y))

ups_less : (xs ys : List ℕ) → length xs ≡ length ys → AllZip ◌≤◌ (map up (minus xs ys)) xs
ups_less [] ys h = tt
ups_less (x ∷ xs) [] h = absurd (omega arith)
ups_less (x ∷ xs) (y ∷ ys) h = (up_less x y, ups_less xs ys (omega arith))

downs_less : (xs ys : List ℕ) → length xs ≡ length ys → AllZip ◌≤◌ (map down (minus xs ys)) ys
downs_less [] [] h = tt
downs_less [] (y ∷ ys) h = absurd (omega arith)
downs_less (x ∷ xs) [] h = absurd (omega arith)
downs_less (x ∷ xs) (y ∷ ys) h = (down_less x y, downs_less xs ys (omega arith))

product_less : (ps ks ls : List ℕ) → AllByRecursion (λ p. 0 < p) ps → AllZip ◌≤◌ ks ls → product ps ks ≤ product ps ls
product_less [] ks ls some le = omega arith
product_less (p ∷ ps) [] [] some le = omega arith
product_less (p ∷ ps) [] (l ∷ ls) some le = absurd le
product_less (p ∷ ps) (k ∷ ks) [] some le = absurd le
product_less (p ∷ ps) (k ∷ ks) (l ∷ ls) some le =
    mul-le-mul (pow-le-pow_right some.0 le.0) (product_less ps ks ls some.1 le.1)

pub primes_some : AllByRecursion (λ p. 0 < p) primes
primes_some = (omega arith, (omega arith, (omega arith, (omega arith, (omega arith, (omega arith, tt))))))

part_less : (zs ks : List ℕ) (m w : ℕ) → Factored m zs w → AllZip ◌≤◌ ks zs → product primes ks ≤ m
part_less zs ks m w f le =
    let a = product_less primes ks zs primes_some le in
    let b : product primes zs * 1 ≤ product primes zs * w = mul-le-mul_left (product primes zs) (misses_some 2 w f.left.0) in
    omega (arith, f.parts, mul-one (product primes zs))

module _ (n d : ℕ) (xs ys : List ℕ) (u v : ℕ) (above : Factored n xs u) (below : Factored d ys v) where
  pub numerator_less : numerator (minus xs ys) ≤ n
  numerator_less = part_less xs (map up (minus xs ys)) n u above (ups_less xs ys (above.six ∙ sym below.six))

  pub denominator_less : denominator (minus xs ys) ≤ d
  denominator_less = part_less ys (map down (minus xs ys)) d v below (downs_less xs ys (above.six ∙ sym below.six))
