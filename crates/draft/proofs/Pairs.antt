-- The places of the bounds: one for each pair, whichever way round. Assumes nothing.
use Rattle.std.proofs.Common.{◌≡◌, ℕ, zero, suc, ◌+◌, ◌-◌, ◌*◌, ◌/◌, ◌<◌, ◌≤◌, min, max, true, false, cond, eqb, ◌≢◌, ◌⊎◌, List, length, get_or, set, sym, refl, ap, ◌∙◌, subst, inl, inr, ⊎_elim, arith}
use Rattle.std.proofs.lemmas.List.{get_or-set_same, get_or-set_other}
use Rattle.std.proofs.lemmas.Bool.{eqb-true, cases_eq, cases_order, cases_Bool, cond-true, cond-false}
use Rattle.std.proofs.lemmas.Bool.Decides.{nat_tests}
use Rattle.ratio.proofs.Divides.{below_at}
use Rattle.draft.specs.Book.{same_pair}
use Rattle.draft.specs.Held.{pair_place}

-- the places before those of the pairs with the larger number m
tri : ℕ → ℕ
tri m = m * (m - 1) / 2

tri_suc : (m : ℕ) → m < 32 → tri m + m ≡ tri (suc m)
unfolding tri
tri_suc m h = eqb-true _ _ (below_at 32 (λ m. eqb (m * (m - 1) / 2 + m) (suc m * (suc m - 1) / 2)) refl m h)

tri_less : (m n : ℕ) → m < n → n ≤ 32 → tri m + m ≤ tri n
tri_less m zero h i = absurd (omega arith)
tri_less m (suc n) h i =
    let next = tri_suc n (omega arith) in
    ⊎_elim
    (λ (same : m ≡ n). subst (λ k. tri k + k ≤ tri (suc n)) (sym same) (omega arith))
    (λ (other : m ≡ n → ⊥). let less = tri_less m n (omega arith) (omega arith) in omega arith)
    (cases_eq m n)

-- a place by its larger and its smaller number
place : (i j : ℕ) → pair_place i j ≡ tri (max i j) + min i j
unfolding tri
place i j = refl

pub place_within : (i j : ℕ) → i < 32 → j < 32 → i ≢ j → pair_place i j < 496
unfolding tri
place_within i j h k apart =
    let less = tri_less (max i j) 32 (omega arith) (omega arith) in
    omega (arith, place i j)

-- a lower larger number stands before
lower : (i j k l : ℕ) → i < 32 → j < 32 → k < 32 → l < 32 → i ≢ j → max i j < max k l → pair_place i j < pair_place k l
lower i j k l hi hj hk hl apart less =
    let t = tri_less (max i j) (max k l) less (omega arith) in
    omega (arith, place i j, place k l)

pub place_once : (i j k l : ℕ) → i < 32 → j < 32 → k < 32 → l < 32 → i ≢ j → k ≢ l → pair_place i j ≡ pair_place k l → ((i ≡ k) × (j ≡ l)) ⊎ ((i ≡ l) × (j ≡ k))
place_once i j k l hi hj hk hl ij kl e =
    ⊎_elim
    (λ (same : max i j ≡ max k l).
    let t = ap tri same in
    let least : min i j ≡ min k l = omega (arith, place i j, place k l) in
    ⊎_elim (λ (s : i ≡ k). inl (s, omega arith)) (λ (o : i ≡ k → ⊥). inr (omega arith, omega arith)) (cases_eq i k))
    (λ (other : (max i j < max k l) ⊎ (max k l < max i j)).
    ⊎_elim (λ u. let p = lower i j k l hi hj hk hl ij u in absurd (omega arith)) (λ u. let p = lower k l i j hk hl hi hj kl u in absurd (omega arith)) other)
    (cases_order (max i j) (max k l))

pub place_either : (i j : ℕ) → pair_place i j ≡ pair_place j i
place_either i j =
    let larger : max i j ≡ max j i = omega arith in
    let t = ap tri larger in
    omega (arith, place i j, place j i)

same_place : (t u i j : ℕ) → same_pair t u i j ≡ true → pair_place i j ≡ pair_place t u
same_place t u i j h = grind (arith, nat_tests, place_either i j)

-- the bound of one pair is written, and of no other
pub bound_written : (bounds : List ℕ) (t u x i j : ℕ) → length bounds ≡ 496 → t < 32 → u < 32 → t ≢ u → i < 32 → j < 32 → i ≢ j
    → get_or (set bounds (pair_place t u) x) (pair_place i j) 0 ≡ cond (same_pair t u i j) x (get_or bounds (pair_place i j) 0)
bound_written bounds t u x i j long ht hu tu hi hj ij =
    ⊎_elim
    (λ (same : pair_place i j ≡ pair_place t u).
    let one : same_pair t u i j ≡ true = let once = place_once i j t u hi hj ht hu ij tu same in grind (arith, nat_tests) in
    let within = place_within t u ht hu tu in
    ap (λ k. get_or (set bounds (pair_place t u) x) k 0) same ∙ (get_or-set_same bounds (pair_place t u) x 0 (omega arith) ∙ sym (cond-true (same_pair t u i j) x (get_or bounds (pair_place i j) 0) one)))
    (λ (other : pair_place i j ≢ pair_place t u).
    let none : same_pair t u i j ≡ false = ⊎_elim (λ h. absurd (other (same_place t u i j h))) (λ h. h) (cases_Bool (same_pair t u i j)) in
    get_or-set_other bounds (pair_place t u) (pair_place i j) x 0 other ∙ sym (cond-false (same_pair t u i j) x (get_or bounds (pair_place i j) 0) none))
    (cases_eq (pair_place i j) (pair_place t u))
