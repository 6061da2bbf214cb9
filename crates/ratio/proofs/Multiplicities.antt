-- The steps by which a number is taken apart. Assumes nothing.
use Rattle.std.proofs.Common.{◌≡◌, ℕ, zero, suc, ◌+◌, ◌*◌, ◌/◌, ◌%◌, ◌^◌, ◌<◌, ◌≤◌, List, [], ◌∷◌, ◌++◌, map, length, get_or, take, set, ℤ, pos, ◌-ℤ◌, sym, refl, ap, ◌∙◌, subst, ⊎_elim, mul-le-mul_right, mul_assoc, mul_comm, mul-le-mul_left, one-mul, pow-suc, mul-one, mul_left_comm, add-one, arith, length-set, pow_mono, pow-add, w8, to_z, of_z}
use native.Mathlib.Nat.{mul-mod_right, div-add-mod}
use Rattle.std.proofs.lemmas.Int.{ints}
use Rattle.std.specs.List.{AllByRecursion}
use Rattle.std.proofs.lemmas.Bool.{cases_lt}
use Rattle.std.proofs.ByRecursion.{All-push, All-set, All-get_or}
use Rattle.std.proofs.lemmas.List.{take_more, take_more_set, take_all, length-take-le}
use Rattle.ratio.specs.Products.{product, primes}
use Rattle.ratio.specs.Factors.{Misses, Without, minus}
use Rattle.ratio.proofs.Factoring.{Factored, misses_some}

-- ---- one prime

pub few_times : (t r n : ℕ) → 0 < r → 2 ^ t * r ≤ n → n ≤ 4294967295 → t < 32
few_times t r n some le small =
    ⊎_elim (λ (h : t < 32). h)
    (λ (h : 32 ≤ t).
    let big : 2 ^ 32 ≤ 2 ^ t = pow_mono h in
    let more : 2 ^ t * 1 ≤ 2 ^ t * r = mul-le-mul_left (2 ^ t) some in
    absurd (omega (arith, mul-one (2 ^ t))))
    (cases_lt t 32)

pub divided : (n p : ℕ) → n % p ≡ 0 → n ≡ p * (n / p)
divided n p e = omega (arith, div-add-mod n p)

pub some_left : (n p : ℕ) → 0 < n → n % p ≡ 0 → 0 < n / p
some_left n p some e =
    ⊎_elim (λ (h : 0 < n / p). h)
    (λ (h : n / p ≤ 0).
    let none : n / p ≡ 0 = omega arith in
    let d : n ≡ p * 0 = divided n p e ∙ ap (λ k. p * k) none in
    absurd (omega arith))
    (cases_lt 0 (n / p))

pub one_more : (n p t r : ℕ) → n ≡ p ^ t * r → r % p ≡ 0 → n ≡ p ^ (t + 1) * (r / p)
one_more n p t r e z =
    let d = divided r p z in
    let power : p ^ (t + 1) ≡ p ^ t * p = rw add-one (pow-suc p t) in
    e ∙ (ap (λ k. p ^ t * k) d ∙ (sym (mul_assoc (p ^ t) p (r / p)) ∙ ap (λ k. k * (r / p)) (sym power)))

pub halves : (n p t r : ℕ) → 1 < p → 2 ^ t * r ≤ n → r % p ≡ 0 → 2 ^ (t + 1) * (r / p) ≤ n
halves n p t r big le z =
    let d = divided r p z in
    let a : 2 ^ (t + 1) ≡ 2 ^ t * 2 = pow-add 2 t 1 in
    let b : 2 * (r / p) ≤ p * (r / p) = mul-le-mul_right (r / p) big in
    let b' : 2 * (r / p) ≤ r = omega arith in
    let c : 2 ^ t * (2 * (r / p)) ≤ 2 ^ t * r = mul-le-mul_left (2 ^ t) b' in
    let e : 2 ^ (t + 1) * (r / p) ≡ 2 ^ t * (2 * (r / p)) = ap (λ k. k * (r / p)) a ∙ mul_assoc (2 ^ t) 2 (r / p) in
    omega arith

-- ---- all six

pub product_push : (ps ks : List ℕ) (p k : ℕ) → length ps ≡ length ks → product (ps ++ (p ∷ [])) (ks ++ (k ∷ [])) ≡ product ps ks * p ^ k
product_push [] [] p k h = mul_comm (p ^ k) 1
product_push [] (x ∷ ks) p k h = absurd (omega arith)
product_push (q ∷ ps) [] p k h = absurd (omega arith)
product_push (q ∷ ps) (x ∷ ks) p k h = ap (λ n. q ^ x * n) (product_push ps ks p k (omega arith)) ∙ sym (mul_assoc (q ^ x) (product ps ks) (p ^ k))

-- a list that has f of each element is the map
pub mapped : {X Y : Type 0} (f : X → Y) (xs : List X) (ys : List Y) (d : X) (e : Y) → length ys ≡ length xs
    → ((i : ℕ) → i < length xs → get_or ys i e ≡ f (get_or xs i d)) → ys ≡ map f xs
mapped f [] [] d e long at = refl
mapped f [] (y ∷ ys) d e long at = absurd (omega arith)
mapped f (x ∷ xs) [] d e long at = absurd (omega arith)
mapped f (x ∷ xs) (y ∷ ys) d e long at = cc (at 0 (omega arith), mapped f xs ys d e (omega arith) (λ i h. at (suc i) (omega arith)))

-- what holds at each of the six places holds at every place
pub all_six : (P : ℕ → Type 0) → P 0 → P 1 → P 2 → P 3 → P 4 → P 5 → (i : ℕ) → i < 6 → P i
all_six P a b c d e f zero h = a
all_six P a b c d e f (suc zero) h = b
all_six P a b c d e f (suc (suc zero)) h = c
all_six P a b c d e f (suc (suc (suc zero))) h = d
all_six P a b c d e f (suc (suc (suc (suc zero)))) h = e
all_six P a b c d e f (suc (suc (suc (suc (suc zero))))) h = f
all_six P a b c d e f (suc (suc (suc (suc (suc (suc i)))))) h = absurd (omega arith)

-- a difference as the code computes it
abbrev pub difference : ℕ → ℕ → ℤ
difference x y = to_z w8 (of_z w8 (to_z w8 x -ℤ to_z w8 y))

pub small_difference : (x y : ℕ) → x < 32 → y < 32 → difference x y ≡ pos x -ℤ pos y
small_difference x y h i = omega (arith, ints)

-- the differences, place by place
pub minus_at : (xs ys : List ℕ) (zs : List ℤ) → length ys ≡ length xs → length zs ≡ length xs
    → ((i : ℕ) → i < length xs → get_or zs i (pos 0) ≡ pos (get_or xs i 0) -ℤ pos (get_or ys i 0)) → zs ≡ minus xs ys
minus_at [] ys [] ly lz at = refl
minus_at [] ys (z ∷ zs) ly lz at = absurd (omega arith)
minus_at (x ∷ xs) [] zs ly lz at = absurd (omega arith)
minus_at (x ∷ xs) (y ∷ ys) [] ly lz at = absurd (omega arith)
minus_at (x ∷ xs) (y ∷ ys) (z ∷ zs) ly lz at = cc (at 0 (omega arith), minus_at xs ys zs (omega arith) (omega arith) (λ i h. at (suc i) (omega arith)))

pub multiple : (n p q r : ℕ) → n ≡ q * r → r % p ≡ 0 → n % p ≡ 0
multiple n p q r e z =
    let d : n ≡ p * (q * (r / p)) = e ∙ (ap (λ k. q * k) (divided r p z) ∙ mul_left_comm q p (r / p)) in
    ap (λ k. k % p) d ∙ mul-mod_right p (q * (r / p))

-- what no prime divides, no prime divides a part of
pub without_part : (ps : List ℕ) (n q r : ℕ) → n ≡ q * r → Without ps n → Without ps r
without_part [] n q r e w = tt
without_part (p ∷ ps) n q r e w = (λ z. w.0 (multiple n p q r e z), without_part ps n q r e w.1)

-- the first primes are out of the number
pub record Apart (n : ℕ) (place : ℕ) (ks : List ℕ) (rest : ℕ) : Type 0 where
  pub six : length ks ≡ 6
  pub parts : n ≡ product (take place primes) (take place ks) * rest
  pub left : Without (take place primes) rest
  pub few : AllByRecursion (λ k. k < 32) ks
  pub some : 0 < rest
  pub small : rest ≤ 4294967295

part_small : (n q r : ℕ) → n ≡ q * r → 0 < n → r ≤ n
part_small n zero r e some = absurd (omega arith)
part_small n (suc q) r e some = let m : 1 * r ≤ suc q * r = mul-le-mul_right r (omega arith) in omega arith

pub apart_more : (n place : ℕ) (ks : List ℕ) (rest t left : ℕ) → Apart n place ks rest → place < 6
    → rest ≡ get_or primes place 0 ^ t * left → Misses (get_or primes place 0) left → t < 32 → Apart n (place + 1) (set ks place t) left
apart_more n place ks rest t left a h e m few =
    let p = get_or primes place 0 in
    let six = a.six in
    let l : length (take place ks) ≡ place = length-take-le place ks (omega arith) in
    let lp : length (take place primes) ≡ place = length-take-le place primes (omega arith) in
    let more_primes = take_more primes place 0 h in
    let more_powers = take_more_set ks place t (omega arith) in
    let push = product_push (take place primes) (take place ks) p t (lp ∙ sym l) in
    let grouped = mul_assoc (product (take place primes) (take place ks)) (p ^ t) left in
    let parts = a.parts in
    record {
      six = length-set ks place t ∙ a.six;
      parts = cc;
      left = subst (λ ps. Without ps left) (sym more_primes) (All-push (λ q. Misses q left) (take place primes) p (without_part (take place primes) rest (p ^ t) left e a.left) m);
      few = All-set (λ k. k < 32) ks place t few a.few;
      some = misses_some p left m;
      small = let s = part_small rest (p ^ t) left e a.some in omega (arith, a.small);
    }

pub prime_large : (i : ℕ) → i < 6 → 1 < get_or primes i 0
prime_large i h = All-get_or (λ p. 1 < p) primes i 0 h (omega arith, (omega arith, (omega arith, (omega arith, (omega arith, (omega arith, tt))))))

pub apart_none : (n : ℕ) → 0 < n → n ≤ 4294967295 → Apart n 0 (0 ∷ (0 ∷ (0 ∷ (0 ∷ (0 ∷ (0 ∷ [])))))) n
apart_none n some small = record {
  six = refl;
  parts = sym (one-mul n);
  left = tt;
  few = (omega arith, (omega arith, (omega arith, (omega arith, (omega arith, (omega arith, tt))))));
  some = some;
  small = small;
}

pub apart_all : (n place : ℕ) (ks : List ℕ) (rest : ℕ) → 6 ≤ place → Apart n place ks rest → Factored n ks rest
apart_all n place ks rest h a =
    let six = a.six in
    let powers = take_all place ks (omega arith) in
    let all_primes = take_all place primes h in
    let parts = a.parts in
    record {
      six = six;
      parts = cc;
      left = subst (λ ps. Without ps rest) all_primes a.left;
    }
