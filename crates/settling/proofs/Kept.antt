-- Bounds and cost: as relations, and of a start with one number more.
use Rattle.std.proofs.Common.{◌≡◌, ℕ, ◌<◌, ◌≤◌, true, leb, List, [], ◌∷◌, ◌++◌, map, length, get_or, fold, sym, refl, ap, ◌∙◌, subst, ⊎_elim, arith}
use Rattle.std.specs.List.{AllByRecursion}
use Rattle.std.proofs.lemmas.List.{append_assoc, append-nil, length_push, length-append, get_or_append_left}
use Rattle.std.proofs.lemmas.List.Folds.{fold-map}
use Rattle.std.proofs.lemmas.List.Sums.{fold-append}
use Rattle.std.proofs.lemmas.Bool.{leb-true, le-leb, cases_lt}
use Rattle.settling.specs.Settling.{Costing, Lawful, Problem, below, pairs, laid, apart, keeps, cost}
use Rattle.settling.proofs.Listed.{all_true, true_all, all_pairs, pairs_all, pairs_more}

-- ---- folds

pub folded_same : {A B : Type 0} (f g : B → A → B) (b : B) (xs : List A) → AllByRecursion (λ x. (b : B) → f b x ≡ g b x) xs → fold f b xs ≡ fold g b xs
folded_same f g b [] h = refl
folded_same f g b (x ∷ xs) h = ap (λ z. fold f z xs) (h.0 b) ∙ folded_same f g (g b x) xs h.1

module _ {R : Type 0} (p : Problem R) (none : R) where
  -- ---- a start under a longer one

  pub laid_front : (s t : List ℕ) (i : ℕ) → i < length s → laid p none (s ++ t) i ≡ laid p none s i
  laid_front s t i h = ap (λ n. get_or (get_or p.candidates i []) n none) (get_or_append_left s t 0 i h)

  pub apart_front : (s t : List ℕ) (i j : ℕ) → i < j → j < length s → apart p none (s ++ t) i j ≡ apart p none s i j
  apart_front s t i j h k =
      let h' : i < length s = omega arith in
      ap (λ r. p.distance r (laid p none (s ++ t) j)) (laid_front s t i h') ∙ ap (λ r. p.distance (laid p none s i) r) (laid_front s t j k)

  -- ---- bounds

  pub keeps_each : (s : List ℕ) → keeps p none s ≡ true → (i j : ℕ) → i < j → j < length s → apart p none s i j ≤ p.bound i j
  keeps_each s e i j h k =
      leb-true (apart p none s i j) (p.bound i j)
      (pairs_all (λ (i, j). leb (apart p none s i j) (p.bound i j) ≡ true) (length s) (all_true (λ (i, j). leb (apart p none s i j) (p.bound i j)) (pairs (length s)) e) i j h k)

  pub keeps_from : (s : List ℕ) → ((i j : ℕ) → i < j → j < length s → apart p none s i j ≤ p.bound i j) → keeps p none s ≡ true
  keeps_from s h =
      true_all (λ (i, j). leb (apart p none s i j) (p.bound i j)) (pairs (length s))
      (all_pairs (λ (i, j). leb (apart p none s i j) (p.bound i j) ≡ true) (length s) (λ i j k l. le-leb (apart p none s i j) (p.bound i j) (h i j k l)))

  -- a start that keeps the bounds keeps them up to any tone
  pub keeps_front : (s t : List ℕ) → keeps p none (s ++ t) ≡ true → keeps p none s ≡ true
  keeps_front s t e =
      keeps_from s
      (λ i j h k. subst (λ d. d ≤ p.bound i j) (apart_front s t i j h k) (keeps_each (s ++ t) e i j h (omega (arith, length-append s t))))

  -- with one number more, the bounds are kept if they were and the new tone's pairs keep theirs
  pub keeps_push : (s : List ℕ) (q : ℕ) → keeps p none s ≡ true → ((i : ℕ) → i < length s → apart p none (s ++ (q ∷ [])) i (length s) ≤ p.bound i (length s)) → keeps p none (s ++ (q ∷ [])) ≡ true
  keeps_push s q e h =
      keeps_from (s ++ (q ∷ []))
      (λ i j k l. ⊎_elim
      (λ (earlier : j < length s). subst (λ d. d ≤ p.bound i j) (sym (apart_front s (q ∷ []) i j k earlier)) (keeps_each s e i j k earlier))
      (λ (last : length s ≤ j).
      let is : length s ≡ j = omega (arith, length_push s q) in
      subst (λ n. apart p none (s ++ (q ∷ [])) i n ≤ p.bound i n) is (h i (omega arith)))
      (cases_lt j (length s)))

  pub keeps_last : (s : List ℕ) (q : ℕ) → keeps p none (s ++ (q ∷ [])) ≡ true → (i : ℕ) → i < length s → apart p none (s ++ (q ∷ [])) i (length s) ≤ p.bound i (length s)
  keeps_last s q e i h = keeps_each (s ++ (q ∷ [])) e i (length s) h (omega (arith, length_push s q))

  -- ---- cost

  module _ {V : Type 0} (c : Costing V) where
    -- the cost with one number more joins the values of the new tone's pairs to the cost before
    pub cost_push : (s : List ℕ) (q : ℕ) → cost p none c (s ++ (q ∷ [])) ≡ fold (λ v i. c.join v (c.worth (apart p none (s ++ (q ∷ [])) i (length s)))) (cost p none c s) (below (length s))
    cost_push s q =
        let t = s ++ (q ∷ []) in
        let F : V → ℕ × ℕ → V = λ v (i, j). c.join v (c.worth (apart p none t i j)) in
        let G : V → ℕ × ℕ → V = λ v (i, j). c.join v (c.worth (apart p none s i j)) in
        ap (λ n. fold F c.nil (pairs n)) (length_push s q)
        ∙ ap (fold F c.nil) (pairs_more (length s))
        ∙ fold-append F c.nil (pairs (length s)) (map (λ i. (i, length s)) (below (length s)))
        ∙ ap (λ v. fold F v (map (λ i. (i, length s)) (below (length s))))
        (folded_same F G c.nil (pairs (length s))
        (all_pairs (λ x. (v : V) → F v x ≡ G v x) (length s) (λ i j h k v. ap (λ d. c.join v (c.worth d)) (apart_front s (q ∷ []) i j h k))))
        ∙ fold-map F (λ i. (i, length s)) (cost p none c s) (below (length s))

    module _ (law : Lawful c) where
      pub folded_grows : {A : Type 0} (worth : A → V) (v : V) (xs : List A) → c.no_more v (fold (λ v x. c.join v (worth x)) v xs) ≡ true
      folded_grows worth v [] = law.reflexive v
      folded_grows worth v (x ∷ xs) =
          law.transitive v (c.join v (worth x)) (fold (λ v x. c.join v (worth x)) (c.join v (worth x)) xs)
          (law.grows v (worth x)) (folded_grows worth (c.join v (worth x)) xs)

      -- cost only grows
      pub cost_grows : (s t : List ℕ) → c.no_more (cost p none c s) (cost p none c (s ++ t)) ≡ true
      cost_grows s [] = subst (λ l. c.no_more (cost p none c s) (cost p none c l) ≡ true) (sym (append-nil s)) (law.reflexive (cost p none c s))
      cost_grows s (q ∷ t) =
          law.transitive (cost p none c s) (cost p none c (s ++ (q ∷ []))) (cost p none c (s ++ (q ∷ t)))
          (subst (λ v. c.no_more (cost p none c s) v ≡ true) (sym (cost_push s q)) (folded_grows (λ i. c.worth (apart p none (s ++ (q ∷ [])) i (length s))) (cost p none c s) (below (length s))))
          (subst (λ l. c.no_more (cost p none c (s ++ (q ∷ []))) (cost p none c l) ≡ true) (append_assoc s (q ∷ []) t) (cost_grows (s ++ (q ∷ [])) t))
