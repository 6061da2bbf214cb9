-- The search, turn by turn, and its count of trials, which never falls.
use Rattle.std.proofs.Common.{◌≡◌, ℕ, ◌+◌, ◌<◌, ◌≤◌, false, List, [], ◌∷◌, ◌++◌, length, get_or, take, drop, Some, None, fold, Option, sym, ap, ◌∙◌, subst, ⊎_elim, arith}
use Rattle.std.proofs.lemmas.List.{take-append-drop, take_all}
use Rattle.std.proofs.lemmas.List.Sums.{fold_more}
use Rattle.std.proofs.lemmas.Bool.{cases_Bool}
use Rattle.std.specs.List.{enumerate_from}
use Rattle.std.proofs.lemmas.List.FromFn.{length-enumerate_from, get_or-enumerate_from}
use Rattle.settling.specs.Settling.{Costing, Problem}
use Rattle.std.proofs.lemmas.List.Sums.{fold-append}
use Rattle.settling.specs.Explore.{Found, counted, next, beaten, row, explore, step}
use Rattle.settling.proofs.Explore.{explore_beaten, explore_end, explore_tone}

module _ {R V : Type 0} (p : Problem R) (c : Costing V) where
  -- ---- one trial

  module _ (rest : List (List R)) (laid : List R) (s : List ℕ) (v : V) where
    pub step_some : (g : Found V) (n : ℕ) (x : R) (w : V) → row p c (length laid) x 0 laid v ≡ Some w → step p c rest laid s v g (n, x) ≡ explore p c rest (laid ++ (x ∷ [])) (s ++ (n ∷ [])) w (counted g)
    step_some g n x w e = ap (λ o. next o (counted g) (λ w. explore p c rest (laid ++ (x ∷ [])) (s ++ (n ∷ [])) w (counted g))) e

    pub step_none : (g : Found V) (n : ℕ) (x : R) → row p c (length laid) x 0 laid v ≡ None → step p c rest laid s v g (n, x) ≡ counted g
    step_none g n x e = ap (λ o. next o (counted g) (λ w. explore p c rest (laid ++ (x ∷ [])) (s ++ (n ∷ [])) w (counted g))) e

    -- the fold over the first n candidates, with the one at n
    pub stepped : (f g : Found V) (cs : List R) (n : ℕ) (x : R) → n < length cs → x ≡ get_or cs n x → g ≡ fold (step p c rest laid s v) f (take n (enumerate_from 0 cs))
        → step p c rest laid s v g (n, x) ≡ fold (step p c rest laid s v) f (take (n + 1) (enumerate_from 0 cs))
    stepped f g cs n x h is inv =
        let S = step p c rest laid s v in
        let h' : n < length (enumerate_from 0 cs) = omega (arith, length-enumerate_from 0 cs) in
        let zero_n : 0 + n ≡ n = omega arith in
        let at_n : get_or (enumerate_from 0 cs) n (n, x) ≡ (n, x) = get_or-enumerate_from 0 cs n (n, x) h ∙ (λ i. (zero_n i, sym is i)) in
        ap (λ y. S y (n, x)) inv ∙ ap (S (fold S f (take n (enumerate_from 0 cs)))) (sym at_n) ∙ sym (fold_more S f (enumerate_from 0 cs) n (n, x) h')

    pub stepped_some : (f g : Found V) (cs : List R) (n : ℕ) (x : R) (w : V) → n < length cs → x ≡ get_or cs n x → g ≡ fold (step p c rest laid s v) f (take n (enumerate_from 0 cs)) → row p c (length laid) x 0 laid v ≡ Some w
        → explore p c rest (laid ++ (x ∷ [])) (s ++ (n ∷ [])) w (counted g) ≡ fold (step p c rest laid s v) f (take (n + 1) (enumerate_from 0 cs))
    stepped_some f g cs n x w h is inv e = sym (step_some g n x w e) ∙ stepped f g cs n x h is inv

    pub stepped_none : (f g : Found V) (cs : List R) (n : ℕ) (x : R) → n < length cs → x ≡ get_or cs n x → g ≡ fold (step p c rest laid s v) f (take n (enumerate_from 0 cs)) → row p c (length laid) x 0 laid v ≡ None
        → counted g ≡ fold (step p c rest laid s v) f (take (n + 1) (enumerate_from 0 cs))
    stepped_none f g cs n x h is inv e = sym (step_none g n x e) ∙ stepped f g cs n x h is inv

    -- the fold over all candidates is the search
    pub stepped_all : (f : Found V) (cs : List R) (n : ℕ) → length cs ≤ n → beaten c f.best v ≡ false → fold (step p c rest laid s v) f (take n (enumerate_from 0 cs)) ≡ explore p c (cs ∷ rest) laid s v f
    stepped_all f cs n h e =
        ap (fold (step p c rest laid s v) f) (take_all n (enumerate_from 0 cs) (omega (arith, length-enumerate_from 0 cs))) ∙ sym (explore_tone p c cs rest laid s v f e)

  -- ---- trials only grow

  folded_more_trials : (S : Found V → ℕ × R → Found V) → ((g : Found V) (x : ℕ × R) → g.trials ≤ (S g x).trials) → (f : Found V) (xs : List (ℕ × R)) → f.trials ≤ (fold S f xs).trials
  folded_more_trials S h f [] = omega arith
  folded_more_trials S h f (x ∷ xs) = omega (arith, h f x, folded_more_trials S h (S f x) xs)

  step_more_by : (rest : List (List R)) (laid : List R) (s : List ℕ) (g : Found V) → ((w : V) → g.trials + 1 ≤ (explore p c rest laid s w (counted g)).trials) → (o : Option V) → g.trials + 1 ≤ (next o (counted g) (λ w. explore p c rest laid s w (counted g))).trials
  step_more_by rest laid s g ih None = omega arith
  step_more_by rest laid s g ih (Some w) = ih w

  -- a search never lowers the trials
  pub explore_trials : (rest : List (List R)) (laid : List R) (s : List ℕ) (v : V) (f : Found V) → f.trials ≤ (explore p c rest laid s v f).trials
  explore_trials [] laid s v f =
      ⊎_elim (λ e. omega (arith, ap (λ g. g.trials) (explore_beaten p c [] laid s v f e)))
      (λ e. omega (arith, ap (λ g. g.trials) (explore_end p c laid s v f e))) (cases_Bool (beaten c f.best v))
  explore_trials (cs ∷ rest) laid s v f =
      ⊎_elim (λ e. omega (arith, ap (λ g. g.trials) (explore_beaten p c (cs ∷ rest) laid s v f e)))
      (λ e. subst (λ n. f.trials ≤ n) (sym (ap (λ g. g.trials) (explore_tone p c cs rest laid s v f e)))
      (folded_more_trials (step p c rest laid s v)
      (λ g x. let more = step_more_by rest (laid ++ (x.1 ∷ [])) (s ++ (x.0 ∷ [])) g (λ w. explore_trials rest (laid ++ (x.1 ∷ [])) (s ++ (x.0 ∷ [])) w (counted g)) (row p c (length laid) x.1 0 laid v) in omega arith)
      f (enumerate_from 0 cs)))
      (cases_Bool (beaten c f.best v))

  module _ (rest : List (List R)) (laid : List R) (s : List ℕ) (v : V) where
    -- a trial counts at least one
    pub step_trials : (g : Found V) (x : ℕ × R) → g.trials + 1 ≤ (step p c rest laid s v g x).trials
    step_trials g x =
        step_more_by rest (laid ++ (x.1 ∷ [])) (s ++ (x.0 ∷ [])) g (λ w. explore_trials rest (laid ++ (x.1 ∷ [])) (s ++ (x.0 ∷ [])) w (counted g)) (row p c (length laid) x.1 0 laid v)

    -- a part of the trials never lowers their count
    pub folded_trials : (f : Found V) (xs : List (ℕ × R)) → f.trials ≤ (fold (step p c rest laid s v) f xs).trials
    folded_trials f xs = folded_more_trials (step p c rest laid s v) (λ g x. omega (arith, step_trials g x)) f xs

    pub front_trials : (f : Found V) (n : ℕ) (xs : List (ℕ × R)) → (fold (step p c rest laid s v) f (take n xs)).trials ≤ (fold (step p c rest laid s v) f xs).trials
    front_trials f n xs =
        let S = step p c rest laid s v in
        subst (λ l. (fold S f (take n xs)).trials ≤ (fold S f l).trials) (take-append-drop n xs)
        (subst (λ g. (fold S f (take n xs)).trials ≤ g.trials) (sym (fold-append S f (take n xs) (drop n xs))) (folded_trials (fold S f (take n xs)) (drop n xs)))

    -- where the first n candidates have spent the allowance and one is left, the whole search spends more
    pub spent_here : (f g : Found V) (cs : List R) (n a : ℕ) (x : R) → n < length cs → x ≡ get_or cs n x → g ≡ fold (step p c rest laid s v) f (take n (enumerate_from 0 cs)) → beaten c f.best v ≡ false → a ≤ g.trials
        → a < (explore p c (cs ∷ rest) laid s v f).trials
    spent_here f g cs n a x h is inv e over =
        let S = step p c rest laid s v in
        let one = step_trials g (n, x) in
        let same : (S g (n, x)).trials ≡ (fold S f (take (n + 1) (enumerate_from 0 cs))).trials = ap (λ g. g.trials) (stepped rest laid s v f g cs n x h is inv) in
        let more = front_trials f (n + 1) (enumerate_from 0 cs) in
        let all_of : (explore p c (cs ∷ rest) laid s v f).trials ≡ (fold S f (enumerate_from 0 cs)).trials = ap (λ g. g.trials) (explore_tone p c cs rest laid s v f e) in
        omega arith

    -- where the search below one candidate spends more than the allowance, so does the whole
    pub spent_below : (f g : Found V) (cs : List R) (n a : ℕ) (x : R) (w : V) → n < length cs → x ≡ get_or cs n x → g ≡ fold (step p c rest laid s v) f (take n (enumerate_from 0 cs)) → beaten c f.best v ≡ false → row p c (length laid) x 0 laid v ≡ Some w
        → a < (explore p c rest (laid ++ (x ∷ [])) (s ++ (n ∷ [])) w (counted g)).trials → a < (explore p c (cs ∷ rest) laid s v f).trials
    spent_below f g cs n a x w h is inv e joins over =
        let S = step p c rest laid s v in
        let same : (explore p c rest (laid ++ (x ∷ [])) (s ++ (n ∷ [])) w (counted g)).trials ≡ (fold S f (take (n + 1) (enumerate_from 0 cs))).trials = ap (λ g. g.trials) (stepped_some rest laid s v f g cs n x w h is inv joins) in
        let more = front_trials f (n + 1) (enumerate_from 0 cs) in
        let all_of : (explore p c (cs ∷ rest) laid s v f).trials ≡ (fold S f (enumerate_from 0 cs)).trials = ap (λ g. g.trials) (explore_tone p c cs rest laid s v f e) in
        omega arith
