-- The search from the empty start ends with the best choice and the trials of the problem.
use Rattle.std.proofs.Common.{◌≡◌, ℕ, suc, ◌+◌, ◌<◌, ◌≤◌, true, false, cond, List, [], ◌∷◌, ◌++◌, map, length, get_or, take, drop, Some, None, fold, sum_by, Option, sym, refl, ap, ◌∙◌, subst, inl, inr, ⊎_elim, arith}
use Rattle.std.specs.List.{range_with_len, AllByRecursion}
use Rattle.std.proofs.lemmas.List.{append-nil, append_assoc, length-append, length_push, get_or_push, get_or_at, take_at, take-append-drop, map_push}
use Rattle.std.proofs.lemmas.List.FromFn.{get_or-map-range_with_len, length-map-range_with_len}
use Rattle.std.proofs.lemmas.List.Sums.{sum_by-cons, sum_by_push}
use Rattle.std.proofs.lemmas.Bool.{cases_Bool, cases_eq, both_ways, cond-true, cond-false}
use Rattle.std.specs.List.{enumerate_from}
use Rattle.settling.specs.Settling.{Costing, Lawful, Problem, Choice, choices, below, laid, apart, keeps, cost, live, trials_at, trials, Best}
use Rattle.settling.proofs.Listed.{all_below, below_more, choice_push, sum_by_both, sum_choices_push}
use Rattle.std.proofs.lemmas.List.Folds.{fold-map}
use Rattle.settling.proofs.Kept.{folded_same, laid_front, keeps_front, keeps_push, keeps_last, cost_push}
use Rattle.settling.proofs.Live.{live_keeps, dead_under}
use Rattle.settling.specs.Explore.{Found, counted, next, beaten, row, explore, step}
use Rattle.settling.proofs.Explore.{explore_beaten, explore_end, explore_tone}
use Rattle.settling.proofs.Rows.{row_rowed, row_broken}
use Rattle.settling.proofs.Covered.{Passed, Under, Through, Upto, Right, right_same, passed_upto, upto_passed, through_upto, upto_through, under_push, beaten_dead, unbeaten_live, beaten_through, leaf_through}

sum_by_zero : {A : Type 0} (f : A → ℕ) (xs : List A) → ((x : A) → f x ≡ 0) → sum_by f xs ≡ 0
sum_by_zero f [] h = refl
sum_by_zero f (x ∷ xs) h = sum_by-cons f x xs ∙ omega (arith, h x, sum_by_zero f xs h)

map_same : {A B : Type 0} (f g : A → B) (xs : List A) → AllByRecursion (λ x. f x ≡ g x) xs → map f xs ≡ map g xs
map_same f g [] h = refl
map_same f g (x ∷ xs) h = λ i. h.0 i ∷ map_same f g xs h.1 i

module _ {R : Type 0} (p : Problem R) (none : R) {V : Type 0} (c : Costing V) where
  -- ---- the trials under a start

  -- The trials at s and at all that extends it by the tones of `rest`.
  abbrev pub under : List (List R) → List ℕ → ℕ
  under [] s = 0
  under (cs ∷ rest) s = cond (live p none c s) (length cs) 0 + sum_by (λ q. under rest (s ++ (q ∷ []))) (below (length cs))

  -- the trials of the first tones, with those under their choices, are all trials
  all_trials : (rest front : List (List R)) → p.candidates ≡ front ++ rest → sum_by (trials_at p none c) (below (length front)) + sum_by (under rest) (choices front) ≡ trials p none c
  all_trials [] front e =
      let same : length p.candidates ≡ length front = ap length (e ∙ append-nil front) in
      let zero_under = sum_by_zero (under []) (choices front) (λ s. refl) in
      let whole : sum_by (trials_at p none c) (below (length p.candidates)) ≡ sum_by (trials_at p none c) (below (length front)) = ap (λ n. sum_by (trials_at p none c) (below n)) same in
      omega arith
  all_trials (cs ∷ rest) front e =
      let front' = front ++ (cs ∷ []) in
      let ih : sum_by (trials_at p none c) (below (length front')) + sum_by (under rest) (choices front') ≡ trials p none c = all_trials rest front' (e ∙ sym (append_assoc front (cs ∷ []) rest)) in
      let more : sum_by (trials_at p none c) (below (length front')) ≡ sum_by (trials_at p none c) (below (length front)) + trials_at p none c (length front) = ap (λ n. sum_by (trials_at p none c) (below n)) (length_push front cs) ∙ ap (sum_by (trials_at p none c)) (below_more (length front)) ∙ sum_by_push (trials_at p none c) (below (length front)) (length front) in
      let row_of : get_or p.candidates (length front) [] ≡ cs = ap (λ l. get_or l (length front) []) e ∙ get_or_at front cs rest [] (length front) refl in
      let starts : take (length front) p.candidates ≡ front = ap (take (length front)) e ∙ take_at front (cs ∷ rest) (length front) refl in
      let here : trials_at p none c (length front) ≡ sum_by (λ s. cond (live p none c s) (length cs) 0) (choices front) = ap (λ d. sum_by (λ s. cond (live p none c s) (length d) 0) (choices (take (length front) p.candidates))) row_of ∙ ap (λ l. sum_by (λ s. cond (live p none c s) (length cs) 0) (choices l)) starts in
      let split = sum_by_both (λ s. cond (live p none c s) (length cs) 0) (λ s. sum_by (λ q. under rest (s ++ (q ∷ []))) (below (length cs))) (choices front) in
      let tree = sum_choices_push front cs (under rest) in
      omega (arith, ih, more, here, split, tree)

  pub trials_under : under p.candidates [] ≡ trials p none c
  trials_under = omega (arith, all_trials p.candidates [] refl)

  module _ (law : Lawful c) where
    under_dead : (rest : List (List R)) (s : List ℕ) → live p none c s ≡ false → under rest s ≡ 0
    under_dead [] s e = refl
    under_dead (cs ∷ rest) s e =
        omega (arith, cond-false (live p none c s) (length cs) 0 e, sum_by_zero (λ q. under rest (s ++ (q ∷ []))) (below (length cs)) (λ q. under_dead rest (s ++ (q ∷ [])) (dead_under p none c law s (q ∷ []) e)))

    -- ---- the start that a search has come to

    -- s is a choice for the tones of `front` that keeps the bounds; xs are its ratios and v is its cost.
    record Node (front rest : List (List R)) (s : List ℕ) (xs : List R) (v : V) : Type 0 where
      tones : p.candidates ≡ front ++ rest
      choice : Choice front s
      kept : keeps p none s ≡ true
      ratios : xs ≡ map (laid p none s) (below (length s))
      sum : v ≡ cost p none c s

    module _ (front rest : List (List R)) (cs : List R) (s : List ℕ) (xs : List R) (v : V) (node : Node front (cs ∷ rest) s xs v) where
      long : length xs ≡ length s
      long = ap length node.ratios ∙ length-map-range_with_len (laid p none s) 0 (length s)

      row_here : get_or p.candidates (length s) [] ≡ cs
      row_here = ap (λ l. get_or l (length s) []) node.tones ∙ get_or_at front cs rest [] (length s) (sym node.choice.full)

      room : length s < length p.candidates
      room = omega (arith, ap length node.tones, length-append front (cs ∷ rest), node.choice.full)

      ratio_at : (i : ℕ) (d : R) → i < length s → get_or xs i d ≡ laid p none s i
      ratio_at i d h = ap (λ l. get_or l i d) node.ratios ∙ get_or-map-range_with_len (laid p none s) 0 (length s) i i d h (omega arith)

      module _ (n : ℕ) (x : R) (listed : n < length cs) (is : x ≡ get_or cs n none) where
        laid_last : laid p none (s ++ (n ∷ [])) (length s) ≡ x
        laid_last = ap (λ l. get_or l (get_or (s ++ (n ∷ [])) (length s) 0) none) row_here ∙ ap (λ m. get_or cs m none) (get_or_push s n 0 (length s) refl) ∙ sym is

        apart_last : (i : ℕ) → i < length s → apart p none (s ++ (n ∷ [])) i (length s) ≡ p.distance (laid p none s i) x
        apart_last i h = λ j. p.distance (laid_front p none s (n ∷ []) i h j) (laid_last j)

        child : (w : V) → row p c (length xs) x 0 xs v ≡ Some w → Node (front ++ (cs ∷ [])) rest (s ++ (n ∷ [])) (xs ++ (x ∷ [])) w
        child w e =
            let t = s ++ (n ∷ []) in
            let rowed = row_rowed p c (length xs) x 0 xs v w e in
            record {
              tones = node.tones ∙ sym (append_assoc front (cs ∷ []) rest);
              choice = choice_push front cs s n node.choice listed;
              kept = keeps_push p none s n node.kept
                  (λ i h. let i' : i < length xs = omega (arith, long) in
                  let zero_i : 0 + i ≡ i = omega arith in
                  subst (λ d. d ≤ p.bound i (length s)) (ap (λ r. p.distance r x) (ratio_at i none h) ∙ sym (apart_last i h))
                  (subst (λ k. p.distance (get_or xs i none) x ≤ p.bound i k) long (subst (λ j. p.distance (get_or xs i none) x ≤ p.bound j (length xs)) zero_i (rowed.kept i none i'))));
              ratios =
                  ap (λ l. l ++ (x ∷ [])) (node.ratios ∙ sym (map_same (laid p none t) (laid p none s) (below (length s)) (all_below (λ i. laid p none t i ≡ laid p none s i) (length s) (λ i h. laid_front p none s (n ∷ []) i h))))
                  ∙ ap (λ r. map (laid p none t) (below (length s)) ++ (r ∷ [])) (sym laid_last)
                  ∙ sym (map_push (laid p none t) (below (length s)) (length s))
                  ∙ ap (map (laid p none t)) (sym (below_more (length s)))
                  ∙ ap (λ k. map (laid p none t) (below k)) (sym (length_push s n));
              sum =
                  rowed.sum
                  ∙ ap (fold (λ v y. c.join v (c.worth (p.distance y x))) v) node.ratios
                  ∙ fold-map (λ v y. c.join v (c.worth (p.distance y x))) (laid p none s) v (below (length s))
                  ∙ sym (folded_same (λ v i. c.join v (c.worth (apart p none t i (length s)))) (λ v i. c.join v (c.worth (p.distance (laid p none s i) x))) v (below (length s))
                  (all_below (λ i. (v : V) → c.join v (c.worth (apart p none t i (length s))) ≡ c.join v (c.worth (p.distance (laid p none s i) x))) (length s) (λ i h v. ap (λ d. c.join v (c.worth d)) (apart_last i h))))
                  ∙ ap (λ u. fold (λ v i. c.join v (c.worth (apart p none t i (length s)))) u (below (length s))) node.sum
                  ∙ sym (cost_push p none c s n);
            }

        broken : row p c (length xs) x 0 xs v ≡ None → keeps p none (s ++ (n ∷ [])) ≡ true → ⊥
        broken e k =
            row_broken p c (length xs) x 0 xs v none e
            (λ i h. let i' : i < length s = omega (arith, long) in
            let zero_i : i ≡ 0 + i = omega arith in
            subst (λ j. p.distance (get_or xs i none) x ≤ p.bound j (length xs)) zero_i
            (subst (λ k. p.distance (get_or xs i none) x ≤ p.bound i k) (sym long)
            (subst (λ d. d ≤ p.bound i (length s)) (apart_last i i' ∙ ap (λ r. p.distance r x) (sym (ratio_at i none i'))) (keeps_last p none s n k i i'))))

    -- ---- one search

    -- From f to g the search has added these trials, and is right for the choices in D.
    abbrev After : (List ℕ → Type 0) → ℕ → Found V → Found V → Type 0
    After D added f g = Right p none c D g.best × (g.trials ≡ f.trials + added)

    -- From any start with these tones left, a search that is right for all before the start is right for all through it.
    abbrev Explores : List (List R) → Type 0
    Explores rest =
        (front : List (List R)) (s : List ℕ) (xs : List R) (v : V) → Node front rest s xs v → (f : Found V) → Right p none c (Passed s) f.best
        → After (Through s) (under rest s) f (explore p c rest xs s v f)

    module _ (front rest : List (List R)) (cs : List R) (s : List ℕ) (xs : List R) (v : V) (node : Node front (cs ∷ rest) s xs v) (below_it : Explores rest) where
      longer : (t : List ℕ) → Choice p.candidates t → length s < length t
      longer t ch = omega (arith, ch.full, room front rest cs s xs v node)

      module _ (n : ℕ) (x : R) (listed : n < length cs) (is : x ≡ get_or cs n none) (g : Found V) (r : Right p none c (Upto s n) g.best) where
        one_broken : row p c (length xs) x 0 xs v ≡ None → After (Upto s (n + 1)) (1 + under rest (s ++ (n ∷ []))) g (counted g)
        one_broken e =
            let dead : live p none c (s ++ (n ∷ [])) ≡ false =
            ⊎_elim (λ l. absurd (broken front rest cs s xs v node n x listed is e (live_keeps p none c (s ++ (n ∷ [])) l))) (λ d. d) (cases_Bool (live p none c (s ++ (n ∷ [])))) in (
              right_same p none c (Upto s n) (Upto s (n + 1))
                  (λ t ch k u. ⊎_elim (λ a. inl a) (λ b. inr (b.0, let l = b.1 in omega arith)) u)
                  (λ t ch k u. ⊎_elim (λ a. inl a)
                  (λ b. ⊎_elim
                  (λ same. let extends : Under (s ++ (n ∷ [])) t = under_push s t (longer t ch) n b.0 same in
                  absurd (broken front rest cs s xs v node n x listed is e
                  (keeps_front p none (s ++ (n ∷ [])) (drop (length (s ++ (n ∷ []))) t)
                  (subst (λ l. keeps p none l ≡ true) (sym (ap (λ l. l ++ drop (length (s ++ (n ∷ []))) t) (sym extends) ∙ take-append-drop (length (s ++ (n ∷ []))) t)) k))))
                  (λ other. inr (b.0, let l = b.1 in omega arith))
                  (cases_eq (get_or t (length s) 0) n))
                  u)
                  g.best r,
              omega (arith, under_dead rest (s ++ (n ∷ [])) dead),
            )

        one_kept : (w : V) → row p c (length xs) x 0 xs v ≡ Some w → After (Upto s (n + 1)) (1 + under rest (s ++ (n ∷ []))) g (explore p c rest (xs ++ (x ∷ [])) (s ++ (n ∷ [])) w (counted g))
        one_kept w e =
            let deeper =
            below_it (front ++ (cs ∷ [])) (s ++ (n ∷ [])) (xs ++ (x ∷ [])) w (child front rest cs s xs v node n x listed is w e) (counted g)
            (right_same p none c (Upto s n) (Passed (s ++ (n ∷ []))) (λ t ch k u. upto_passed s t (longer t ch) n u) (λ t ch k u. passed_upto s t (longer t ch) n u) g.best r) in (
              right_same p none c (Through (s ++ (n ∷ []))) (Upto s (n + 1)) (λ t ch k u. through_upto s t (longer t ch) n u) (λ t ch k u. upto_through s t (longer t ch) n u)
                  (explore p c rest (xs ++ (x ∷ [])) (s ++ (n ∷ [])) w (counted g)).best deeper.0,
              omega (arith, deeper.1),
            )

        one_by : (o : Option V) → row p c (length xs) x 0 xs v ≡ o → After (Upto s (n + 1)) (1 + under rest (s ++ (n ∷ []))) g (next o (counted g) (λ w. explore p c rest (xs ++ (x ∷ [])) (s ++ (n ∷ [])) w (counted g)))
        one_by None e = one_broken e
        one_by (Some w) e = one_kept w e

        one : After (Upto s (n + 1)) (1 + under rest (s ++ (n ∷ []))) g (step p c rest xs s v g (n, x))
        one = one_by (row p c (length xs) x 0 xs v) refl

      -- the candidates from the number n on
      tried : (ds : List R) (n : ℕ) → n + length ds ≡ length cs → ((i : ℕ) → i < length ds → get_or ds i none ≡ get_or cs (n + i) none) → (g : Found V) → Right p none c (Upto s n) g.best
          → After (Upto s (length cs)) (length ds + sum_by (λ q. under rest (s ++ (q ∷ []))) (range_with_len n (length ds))) g (fold (step p c rest xs s v) g (enumerate_from n ds))
      tried [] n e same g r =
          let all_of : n ≡ length cs = omega arith in
          (subst (λ m. Right p none c (Upto s m) g.best) all_of r, omega arith)
      tried (d ∷ ds) n e same g r =
          let n_zero : n + 0 ≡ n = omega arith in
          let g' = step p c rest xs s v g (n, d) in
          let here = one n d (omega arith) (same 0 (omega arith) ∙ ap (λ m. get_or cs m none) n_zero) g r in
          let later = tried ds (n + 1) (omega arith) (λ i h. let shift : n + suc i ≡ n + 1 + i = omega arith in same (suc i) (omega arith) ∙ ap (λ m. get_or cs m none) shift) g' here.0 in
          (later.0, omega (arith, here.1, later.1, sum_by-cons (λ q. under rest (s ++ (q ∷ []))) n (range_with_len (n + 1) (length ds))))

    -- the search is right, from any start
    explored_by : (rest : List (List R)) → Explores rest
    explored_by [] front s xs v node f r =
        let choice : Choice p.candidates s = subst (λ l. Choice l s) (sym (node.tones ∙ append-nil front)) node.choice in
        ⊎_elim
        (λ e. subst (After (Through s) 0 f) (sym (explore_beaten p c [] xs s v f e)) (beaten_through p none c law s v node.sum f.best r e, omega arith))
        (λ e. subst (After (Through s) 0 f) (sym (explore_end p c xs s v f e)) (leaf_through p none c law s v node.sum choice node.kept f.best r e, omega arith))
        (cases_Bool (beaten c f.best v))
    explored_by (cs ∷ rest) front s xs v node f r =
        ⊎_elim
        (λ e. subst (After (Through s) (under (cs ∷ rest) s) f) (sym (explore_beaten p c (cs ∷ rest) xs s v f e))
        (beaten_through p none c law s v node.sum f.best r e, omega (arith, under_dead (cs ∷ rest) s (beaten_dead p none c law s v node.sum f.best r e))))
        (λ e. subst (After (Through s) (under (cs ∷ rest) s) f) (sym (explore_tone p c cs rest xs s v f e))
        (let tries =
        tried front rest cs s xs v node (explored_by rest) cs 0 (omega arith) (λ i h. let zero_i : i ≡ 0 + i = omega arith in ap (λ m. get_or cs m none) zero_i) f
        (right_same p none c (Passed s) (Upto s 0) (λ t ch k u. inl u) (λ t ch k u. ⊎_elim (λ a. a) (λ b. absurd (let l = b.1 in omega arith)) u) f.best r) in (
          right_same p none c (Upto s (length cs)) (Through s) (λ t ch k u. ⊎_elim (λ a. inl a) (λ b. inr b.0) u)
              (λ t ch k u. ⊎_elim (λ a. inl a) (λ b. inr (b, subst (λ d. get_or t (length s) 0 < length d) (row_here front rest cs s xs v node) (ch.listed (length s) (omega (arith, ch.full, room front rest cs s xs v node))))) u)
              (fold (step p c rest xs s v) f (enumerate_from 0 cs)).best tries.0,
          omega (arith, tries.1, cond-true (live p none c s) (length cs) 0 (unbeaten_live p none c law s v node.sum f.best r node.kept e)),
        )))
        (cases_Bool (beaten c f.best v))

-- ---- the whole search

-- Nothing is found yet.
abbrev pub nothing : {V : Type 0} → Found V
nothing = record { best = None; trials = 0 }

module _ {R : Type 0} (p : Problem R) (none : R) {V : Type 0} (c : Costing V) where
  -- What was found settles the problem: as many trials, and the best choice, or none where no choice keeps the bounds.
  pub record Settles (f : Found V) : Type 0 where
    pub tried : f.trials ≡ trials p none c
    pub no_choice : f.best ≡ None → (t : List ℕ) → Choice p.candidates t → keeps p none t ≡ true → ⊥
    pub best_choice : (v : V) (s : List ℕ) → f.best ≡ Some (v, s) → Best p none c s × (v ≡ cost p none c s)

  best_of_all : (b : V × List ℕ) → Right p none c (Through []) (Some b) → Best p none c b.1 × (b.0 ≡ cost p none c b.1)
  best_of_all b r = (
    record {
      choice = r.choice;
      kept = r.kept;
      cheapest = λ t ch k. subst (λ u. c.no_more u (cost p none c t) ≡ true) r.is (r.cheapest t ch k (inr refl));
      first = λ t ch k same other. r.first t ch k (inr refl) (same ∙ sym r.is) other;
    },
    r.is,
  )

  -- the search from the empty start settles every problem, for every costing that keeps the laws
  pub explored : Lawful c → Settles (explore p c p.candidates [] [] c.nil nothing)
  explored law =
      let root : Node p none c law [] p.candidates [] [] c.nil =
      record { tones = refl; choice = record { full = refl; listed = λ i h. absurd (omega arith) }; kept = refl; ratios = refl; sum = refl } in
      let F = explore p c p.candidates [] [] c.nil nothing in
      let ends = explored_by p none c law p.candidates [] [] [] c.nil root nothing (λ t ch k e. both_ways false refl e) in
      record {
        tried = omega (arith, ends.1, trials_under p none c);
        no_choice = λ e t ch k. subst (Right p none c (Through [])) e ends.0 t ch k (inr refl);
        best_choice = λ v s e. best_of_all (v, s) (subst (Right p none c (Through [])) e ends.0);
      }
