-- What the bench settles, in Gräf's words: the best choice by the sum of the distances is an admissible scale of the least
-- average distance.
use Rattle.std.proofs.Common.{◌≡◌, ℕ, zero, suc, ◌+◌, ◌-◌, ◌*◌, ◌^◌, ◌<◌, ◌≤◌, true, cond, eqb, List, [], ◌∷◌, map, length, get_or, fold, sum_by, sym, refl, ap, ◌∙◌, subst, ⊎_elim, mul-le-mul_right, mul-pos, le_of_mul-le-mul_right, arith}
use Rattle.std.specs.List.{ContainsAt, AllByRecursion}
use Rattle.std.proofs.lemmas.List.{same_lists, get_or_default, length-append, length-map}
use Rattle.std.proofs.ByRecursion.{has_get_or, sum_by_le}
use Rattle.std.proofs.lemmas.List.FromFn.{get_or-map-range_with_len, length-map-range_with_len, length-range_with_len}
use Rattle.std.proofs.lemmas.List.Sums.{sum_by-cons, sum_by-append, sum_by_push}
use Rattle.std.proofs.lemmas.Bool.{cases_lt, cond-true, cond-false, eq-eqb, ne_eqb, leb-true, le-leb}
use Rattle.settling.specs.Settling.{Problem, Choice, below, pairs, laid, apart, keeps, cost, Best}
use Rattle.costing.specs.Costs.{added}
use Rattle.settling.specs.Costings.{total}
use Rattle.settling.specs.Graef.{Symmetric, Scale, Admissible, InGraefsWords, spread, NoWider, pitches}
use Rattle.settling.proofs.Listed.{below_more, pairs_more, all_below, all_pairs, sum_by_map, sum_by_both}
use Rattle.settling.proofs.Kept.{keeps_each, keeps_from}

-- ---- sums over pairs

sum_by_each : {A : Type 0} (f g : A → ℕ) (xs : List A) → AllByRecursion (λ x. f x ≡ g x) xs → sum_by f xs ≡ sum_by g xs
sum_by_each f g [] h = refl
sum_by_each f g (x ∷ xs) h = sum_by-cons f x xs ∙ omega (arith, h.0, sum_by_each f g xs h.1, sum_by-cons g x xs)

-- The sum over all i and j below n, i ≠ j.
abbrev square : (ℕ → ℕ → ℕ) → ℕ → ℕ
square d n = sum_by (λ i. sum_by (λ j. cond (eqb i j) 0 (d i j)) (below n)) (below n)

module _ (d : ℕ → ℕ → ℕ) (same : (i j : ℕ) → d i j ≡ d j i) where
  square_more : (n : ℕ) → square d (n + 1) ≡ square d n + 2 * sum_by (λ i. d i n) (below n)
  square_more n =
      let e : ℕ → ℕ → ℕ = λ i j. cond (eqb i j) 0 (d i j) in
      let rows : sum_by (λ i. sum_by (e i) (below (n + 1))) (below (n + 1)) ≡ sum_by (λ i. sum_by (e i) (below (n + 1))) (below n) + sum_by (e n) (below (n + 1)) = ap (sum_by (λ i. sum_by (e i) (below (n + 1)))) (below_more n) ∙ sum_by_push (λ i. sum_by (e i) (below (n + 1))) (below n) n in
      let last : (i : ℕ) → sum_by (e i) (below (n + 1)) ≡ sum_by (e i) (below n) + e i n = λ i. ap (sum_by (e i)) (below_more n) ∙ sum_by_push (e i) (below n) n in
      let parts : sum_by (λ i. sum_by (e i) (below (n + 1))) (below n) ≡ square d n + sum_by (λ i. e i n) (below n) = sum_by_each (λ i. sum_by (e i) (below (n + 1))) (λ i. sum_by (e i) (below n) + e i n) (below n) (all_below (λ i. sum_by (e i) (below (n + 1)) ≡ sum_by (e i) (below n) + e i n) n (λ i h. last i)) ∙ sum_by_both (λ i. sum_by (e i) (below n)) (λ i. e i n) (below n) in
      let column : sum_by (λ i. e i n) (below n) ≡ sum_by (λ i. d i n) (below n) = sum_by_each (λ i. e i n) (λ i. d i n) (below n) (all_below (λ i. e i n ≡ d i n) n (λ i h. cond-false (eqb i n) 0 (d i n) (ne_eqb i n (λ is. omega arith)))) in
      let row : sum_by (e n) (below n) ≡ sum_by (λ i. d i n) (below n) = sum_by_each (e n) (λ i. d i n) (below n) (all_below (λ i. e n i ≡ d i n) n (λ i h. cond-false (eqb n i) 0 (d n i) (ne_eqb n i (λ is. omega arith)) ∙ same n i)) in
      let corner : e n n ≡ 0 = cond-true (eqb n n) 0 (d n n) (eq-eqb n n refl) in
      omega (arith, rows, last n, parts, column, row, corner)

  sum_pairs_more : (n : ℕ) → sum_by (λ (i, j). d i j) (pairs (n + 1)) ≡ sum_by (λ (i, j). d i j) (pairs n) + sum_by (λ i. d i n) (below n)
  sum_pairs_more n =
      ap (sum_by (λ (i, j). d i j)) (pairs_more n) ∙ sum_by-append (λ (i, j). d i j) (pairs n) (map (λ i. (i, n)) (below n))
      ∙ ap (λ m. sum_by (λ (i, j). d i j) (pairs n) + m) (sum_by_map (λ (i, j). d i j) (λ i. (i, n)) (below n))

  -- each pair is counted both ways round
  square_pairs : (n : ℕ) → square d n ≡ 2 * sum_by (λ (i, j). d i j) (pairs n)
  square_pairs zero = refl
  square_pairs (suc n) =
      let next : n + 1 ≡ suc n = omega arith in
      subst (λ m. square d m ≡ 2 * sum_by (λ (i, j). d i j) (pairs m)) next
      (omega (arith, square_more n, sum_pairs_more n, square_pairs n))

-- fewer than 1024 pairs
pairs_few : (n : ℕ) → n ≤ 32 → length (pairs n) ≤ 32 * n
pairs_few zero h = omega arith
pairs_few (suc n) h =
    let next : n + 1 ≡ suc n = omega arith in
    subst (λ m. length (pairs m) ≤ 32 * m) next
    (omega (arith, pairs_few n (omega arith), ap length (pairs_more n), length-append (pairs n) (map (λ i. (i, n)) (below n)), length-map {B = ℕ × ℕ} (below n) (λ i. (i, n)), length-range_with_len 0 n))

no_pairs : (n : ℕ) → n < 2 → length (pairs n) ≡ 0
no_pairs zero h = refl
no_pairs (suc zero) h = refl
no_pairs (suc (suc n)) h = absurd (omega arith)

-- a sum that stays below the limit is not stopped
folded_total : {A : Type 0} (f : A → ℕ) (v : ℕ) (xs : List A) → v + sum_by f xs < 2 ^ 64 → fold (λ v x. added v (f x)) v xs ≡ v + sum_by f xs
folded_total f v [] h = omega arith
folded_total f v (x ∷ xs) h =
    let cons = sum_by-cons f x xs in
    let one : added v (f x) ≡ v + f x = omega arith in
    ap (λ u. fold (λ v x. added v (f x)) u xs) one ∙ folded_total f (v + f x) xs (omega arith) ∙ omega arith

-- ---- scales and choices

module _ {R : Type 0} (none : R) where
  -- the numbers of the pitches of a scale among the candidates of its tones
  record Numbers (tones : List (List R)) (xs : List R) : Type 0 where
    numbers : List ℕ
    choice : Choice tones numbers
    same : (i : ℕ) → i < length xs → get_or (get_or tones i []) (get_or numbers i 0) none ≡ get_or xs i none

  numbers_cons : (cs : List R) (tones : List (List R)) (x : R) (xs : List R) (n : ℕ) → n < length cs → get_or cs n none ≡ x → Numbers tones xs → Numbers (cs ∷ tones) (x ∷ xs)
  numbers_cons cs tones x xs n h is rest = record {
    numbers = n ∷ rest.numbers;
    choice = record { full = ap suc rest.choice.full; listed = more };
    same = at_each;
  }
    where
      more : (i : ℕ) → i < length (n ∷ rest.numbers) → get_or (n ∷ rest.numbers) i 0 < length (get_or (cs ∷ tones) i [])
      more zero l = h
      more (suc i) l = rest.choice.listed i (omega arith)

      at_each : (i : ℕ) → i < length (x ∷ xs) → get_or (get_or (cs ∷ tones) i []) (get_or (n ∷ rest.numbers) i 0) none ≡ get_or (x ∷ xs) i none
      at_each zero l = is
      at_each (suc i) l = rest.same i (omega arith)

  numbers_of : (tones : List (List R)) (xs : List R) → length xs ≡ length tones → ((i : ℕ) → i < length xs → ContainsAt (get_or tones i []) (get_or xs i none)) → Numbers tones xs
  numbers_of [] [] e h = record { numbers = []; choice = record { full = refl; listed = λ i l. absurd (omega arith) }; same = λ i l. absurd (omega arith) }
  numbers_of [] (x ∷ xs) e h = absurd (omega arith)
  numbers_of (cs ∷ tones) [] e h = absurd (omega arith)
  numbers_of (cs ∷ tones) (x ∷ xs) e h =
      let here = h 0 (omega arith) in
      numbers_cons cs tones x xs here.0 here.1 (here.2 none) (numbers_of tones xs (omega arith) (λ i l. h (suc i) (omega arith)))

module _ {R : Type 0} (p : Problem R) (none : R) where
  pub length_pitches : (s : List ℕ) → length (pitches p none s) ≡ length s
  length_pitches s = length-map-range_with_len (laid p none s) 0 (length s)

  pub pitch_at : (s : List ℕ) (i : ℕ) → i < length s → get_or (pitches p none s) i none ≡ laid p none s i
  pitch_at s i h = get_or-map-range_with_len (laid p none s) 0 (length s) i i none h (omega arith)

  -- a choice lays a scale
  pub choice_scale : (s : List ℕ) → Choice p.candidates s → Scale p none (pitches p none s)
  choice_scale s ch = record {
    full = length_pitches s ∙ ch.full;
    listed = λ i h. let h' : i < length s = omega (arith, length_pitches s) in subst (ContainsAt (get_or p.candidates i [])) (sym (pitch_at s i h')) (has_get_or (get_or p.candidates i []) (get_or s i 0) none (ch.listed i h'));
  }

  -- and every scale is laid by some choice
  pub scale_choice : (xs : List R) → Scale p none xs → (s : List ℕ) × Choice p.candidates s × (pitches p none s ≡ xs)
  scale_choice xs sc =
      let found = numbers_of none p.candidates xs sc.full sc.listed in
      let s = found.numbers in
      let long : length (pitches p none s) ≡ length xs = length_pitches s ∙ found.choice.full ∙ sym sc.full in (
        s,
        found.choice,
        same_lists (pitches p none s) xs long
            (λ k d h. let h' : k < length s = omega (arith, length_pitches s) in
            let h'' : k < length xs = omega arith in
            get_or_default (pitches p none s) k d none h ∙ pitch_at s k h' ∙ found.same k h'' ∙ get_or_default xs k none d h''),
      )

  module _ (sym_p : Symmetric p) where
    -- a choice keeps the bounds exactly if its scale is admissible
    pub keeps_admissible : (s : List ℕ) → Choice p.candidates s → keeps p none s ≡ true → Admissible p none (pitches p none s)
    keeps_admissible s ch k = record { scale = choice_scale s ch; near = near_each }
      where
        ordered : (i j : ℕ) → i < j → j < length s → p.distance (get_or (pitches p none s) i none) (get_or (pitches p none s) j none) ≤ p.bound i j
        ordered i j h l =
            let h' : i < length s = omega arith in
            subst (λ d. d ≤ p.bound i j) (sym (λ a. p.distance (pitch_at s i h' a) (pitch_at s j l a))) (keeps_each p none s k i j h l)

        near_each : (i j : ℕ) → i < length (pitches p none s) → j < length (pitches p none s) → (i ≡ j → ⊥) → p.distance (get_or (pitches p none s) i none) (get_or (pitches p none s) j none) ≤ p.bound i j
        near_each i j h l other =
            let e = length_pitches s in
            ⊎_elim (λ (less : i < j). ordered i j less (omega arith))
            (λ (more : j ≤ i).
            let turned = ordered j i (omega arith) (omega arith) in
            subst (λ d. d ≤ p.bound i j) (sym_p.distances (get_or (pitches p none s) j none) (get_or (pitches p none s) i none))
            (subst (λ b. p.distance (get_or (pitches p none s) j none) (get_or (pitches p none s) i none) ≤ b) (sym_p.bounds j i) turned))
            (cases_lt i j)

  pub admissible_keeps : (s : List ℕ) → Admissible p none (pitches p none s) → keeps p none s ≡ true
  admissible_keeps s a =
      keeps_from p none s
      (λ i j h l. let h' : i < length s = omega arith in
      let e = length_pitches s in
      subst (λ d. d ≤ p.bound i j) (λ x. p.distance (pitch_at s i h' x) (pitch_at s j l x)) (a.near i j (omega arith) (omega arith) (λ is. omega arith)))

-- ---- the average distance

module _ {R : Type 0} (p : Problem R) (none : R) (sym_p : Symmetric p) where
  pub spread_pairs : (s : List ℕ) → spread p none (pitches p none s) ≡ 2 * sum_by (λ (i, j). apart p none s i j) (pairs (length s))
  spread_pairs s =
      let d : ℕ → ℕ → ℕ = λ i j. p.distance (get_or (pitches p none s) i none) (get_or (pitches p none s) j none) in
      let both : square d (length s) ≡ 2 * sum_by (λ (i, j). d i j) (pairs (length s)) = square_pairs d (λ i j. sym_p.distances (get_or (pitches p none s) i none) (get_or (pitches p none s) j none)) (length s) in
      let laid_so : sum_by (λ (i, j). d i j) (pairs (length s)) ≡ sum_by (λ (i, j). apart p none s i j) (pairs (length s)) = sum_by_each (λ (i, j). d i j) (λ (i, j). apart p none s i j) (pairs (length s)) (all_pairs (λ (i, j). d i j ≡ apart p none s i j) (length s) (λ i j h l. let h' : i < length s = omega arith in λ x. p.distance (pitch_at p none s i h' x) (pitch_at p none s j l x))) in
      ap (square d) (length_pitches p none s) ∙ both ∙ ap (λ n. 2 * n) laid_so

  -- with at most 32 tones and distances of at most 2^30 no sum reaches the limit
  module _ (near : (x y : R) → p.distance x y ≤ 2 ^ 30) where
    pub cost_total : (s : List ℕ) → length s ≤ 32 → cost p none total s ≡ sum_by (λ (i, j). apart p none s i j) (pairs (length s))
    cost_total s few =
        let most = sum_by_le (λ (i, j). apart p none s i j) (2 ^ 30) (pairs (length s)) (all_pairs (λ (i, j). apart p none s i j ≤ 2 ^ 30) (length s) (λ i j h l. near (laid p none s i) (laid p none s j))) in
        let count = pairs_few (length s) few in
        folded_total (λ (i, j). apart p none s i j) 0 (pairs (length s)) (omega arith) ∙ omega arith

    spread_cost : (s : List ℕ) → length s ≤ 32 → spread p none (pitches p none s) ≡ 2 * cost p none total s
    spread_cost s few = spread_pairs s ∙ ap (λ n. 2 * n) (sym (cost_total s few))

    -- one choice costs no more than another exactly if the average distance of its scale is no more
    pub no_more_no_wider : (s t : List ℕ) → length s ≡ length t → length s ≤ 32 → total.no_more (cost p none total s) (cost p none total t) ≡ true → NoWider p none (pitches p none s) (pitches p none t)
    no_more_no_wider s t e few h =
        let n = length s * (length s - 1) in
        let less : spread p none (pitches p none s) ≤ spread p none (pitches p none t) = omega (arith, leb-true (cost p none total s) (cost p none total t) h, spread_cost s few, spread_cost t (omega arith)) in
        let ps : length (pitches p none s) * (length (pitches p none s) - 1) ≡ n = ap (λ k. k * (k - 1)) (length_pitches p none s) in
        let pt : length (pitches p none t) * (length (pitches p none t) - 1) ≡ n = ap (λ k. k * (k - 1)) (length_pitches p none t ∙ sym e) in
        subst (λ k. spread p none (pitches p none s) * k ≤ spread p none (pitches p none t) * (length (pitches p none s) * (length (pitches p none s) - 1))) (sym pt)
        (subst (λ k. spread p none (pitches p none s) * n ≤ spread p none (pitches p none t) * k) (sym ps) (mul-le-mul_right n less))

    pub no_wider_no_more : (s t : List ℕ) → length s ≡ length t → length s ≤ 32 → NoWider p none (pitches p none s) (pitches p none t) → total.no_more (cost p none total s) (cost p none total t) ≡ true
    no_wider_no_more s t e few h =
        let n = length s * (length s - 1) in
        let ps : length (pitches p none s) * (length (pitches p none s) - 1) ≡ n = ap (λ k. k * (k - 1)) (length_pitches p none s) in
        let pt : length (pitches p none t) * (length (pitches p none t) - 1) ≡ n = ap (λ k. k * (k - 1)) (length_pitches p none t ∙ sym e) in
        let crossed : spread p none (pitches p none s) * n ≤ spread p none (pitches p none t) * n = subst (λ k. spread p none (pitches p none s) * n ≤ spread p none (pitches p none t) * k) ps (subst (λ k. spread p none (pitches p none s) * k ≤ spread p none (pitches p none t) * (length (pitches p none s) * (length (pitches p none s) - 1))) pt h) in
        le-leb (cost p none total s) (cost p none total t)
        (⊎_elim
        (λ (one : length s < 2). let count : length (pairs (length s)) ≡ 0 = no_pairs (length s) one in
        let most = sum_by_le (λ (i, j). apart p none s i j) (2 ^ 30) (pairs (length s)) (all_pairs (λ (i, j). apart p none s i j ≤ 2 ^ 30) (length s) (λ i j h l. near (laid p none s i) (laid p none s j))) in
        let is = cost_total s few in omega arith)
        (λ (many : 2 ≤ length s).
        let some : 0 < n = mul-pos {m = length s} {n = length s - 1} (omega arith) (omega arith) in
        let less = le_of_mul-le-mul_right {m = spread p none (pitches p none s)} {n = spread p none (pitches p none t)} {k = n} crossed some in
        omega (arith, less, spread_cost s few, spread_cost t (omega arith)))
        (cases_lt (length s) 2))

    -- the best choice by the sum of the distances lays an admissible scale, and no admissible scale has a lower average distance
    pub best_scale : (s : List ℕ) → length p.candidates ≤ 32 → Best p none total s → Admissible p none (pitches p none s) × ((xs : List R) → Admissible p none xs → NoWider p none (pitches p none s) xs)
    best_scale s few b = (
      keeps_admissible p none sym_p s b.choice b.kept,
      λ xs a.
          let found = scale_choice p none xs a.scale in
          let t = found.0 in
          let kept = admissible_keeps p none t (subst (Admissible p none) (sym found.2) a) in
          let es = b.choice.full in
          let et = found.1.full in
          subst (NoWider p none (pitches p none s)) found.2 (no_more_no_wider s t (es ∙ sym et) (omega arith) (b.cheapest t found.1 kept)),
    )

    pub in_graefs_words : length p.candidates ≤ 32 → InGraefsWords p none
    in_graefs_words few = record {
      admissible = keeps_admissible p none sym_p;
      kept = λ s ch a. admissible_keeps p none s a;
      scales = scale_choice p none;
      closer = λ s t cs ct. no_more_no_wider s t (cs.full ∙ sym ct.full) (omega (arith, cs.full));
      cheaper = λ s t cs ct. no_wider_no_more s t (cs.full ∙ sym ct.full) (omega (arith, cs.full));
    }
