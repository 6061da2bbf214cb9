-- The pairs of one more ratio: how a loop over the ratios laid goes, and what it gives.
use Rattle.std.proofs.Common.{◌≡◌, ℕ, zero, suc, ◌+◌, ◌<◌, ◌≤◌, Bool, true, false, cond, leb, List, [], ◌∷◌, length, get_or, drop, Some, None, fold, sym, refl, ap, ◌∙◌, subst, arith}
use Rattle.std.proofs.lemmas.List.{drop_more, drop_all}
use Rattle.std.proofs.lemmas.Bool.{cond-true, cond-false, le-leb, lt-leb, leb-true, leb-false}
use Rattle.settling.specs.Settling.{Costing, Problem}
use Rattle.settling.specs.Explore.{next, paired, row}

module _ {R V : Type 0} (p : Problem R) (c : Costing V) where
  -- ---- one pair: b is its bound, d its distance, u the value of that and w the cost with it

  pub paired_over : (i k : ℕ) (x r : R) (v : V) (d b : ℕ) → d ≡ p.distance x r → b ≡ p.bound i k → b < d → paired p c i k x r v ≡ None
  paired_over i k x r v d b is at over =
      cond-false (leb (p.distance x r) (p.bound i k)) (Some (c.join v (c.worth (p.distance x r)))) None
      (lt-leb (p.distance x r) (p.bound i k) (subst (λ e. p.bound i k < e) is (subst (λ e. e < d) at over)))

  pub paired_within : (i k : ℕ) (x r : R) (v : V) (d b : ℕ) (u w : V) → d ≡ p.distance x r → b ≡ p.bound i k → d ≤ b → u ≡ c.worth d → w ≡ c.join v u → paired p c i k x r v ≡ Some w
  paired_within i k x r v d b u w is at within worth joins =
      cond-true (leb (p.distance x r) (p.bound i k)) (Some (c.join v (c.worth (p.distance x r)))) None
      (le-leb (p.distance x r) (p.bound i k) (subst (λ e. e ≤ p.bound i k) is (subst (λ e. d ≤ e) at within)))
      ∙ ap Some (sym (joins ∙ ap (c.join v) (worth ∙ ap c.worth is)))

  -- ---- a turn of the loop

  opened : (k i : ℕ) (r : R) (xs : List R) (v : V) (x : R) → i < length xs → x ≡ get_or xs i x → row p c k r i (drop i xs) v ≡ next (paired p c i k x r v) None (λ w. row p c k r (i + 1) (drop (i + 1) xs) w)
  opened k i r xs v x h e = ap (λ ys. row p c k r i ys v) (drop_more xs i x h ∙ ap (λ y. y ∷ drop (i + 1) xs) (sym e))

  pub row_some : (k i : ℕ) (r : R) (xs : List R) (v w : V) (x : R) → i < length xs → x ≡ get_or xs i x → paired p c i k x r v ≡ Some w → row p c k r i (drop i xs) v ≡ row p c k r (i + 1) (drop (i + 1) xs) w
  row_some k i r xs v w x h e is = opened k i r xs v x h e ∙ ap (λ o. next o None (λ w. row p c k r (i + 1) (drop (i + 1) xs) w)) is

  pub row_none : (k i : ℕ) (r : R) (xs : List R) (v : V) (x : R) → i < length xs → x ≡ get_or xs i x → paired p c i k x r v ≡ None → row p c k r i (drop i xs) v ≡ None
  row_none k i r xs v x h e is = opened k i r xs v x h e ∙ ap (λ o. next o None (λ w. row p c k r (i + 1) (drop (i + 1) xs) w)) is

  pub row_end : (k i : ℕ) (r : R) (xs : List R) (v : V) → length xs ≤ i → row p c k r i (drop i xs) v ≡ Some v
  row_end k i r xs v h = ap (λ ys. row p c k r i ys v) (drop_all i xs h)

  -- ---- what a row gives

  -- each pair keeps its bound, and the cost joins the values of the distances, in order
  pub record Rowed (k : ℕ) (r : R) (i : ℕ) (xs : List R) (v w : V) : Type 0 where
    pub kept : (j : ℕ) (d : R) → j < length xs → p.distance (get_or xs j d) r ≤ p.bound (i + j) k
    pub sum : w ≡ fold (λ v x. c.join v (c.worth (p.distance x r))) v xs

  first_kept : (k : ℕ) (r : R) (i : ℕ) (x : R) (xs : List R) → p.distance x r ≤ p.bound i k → ((j : ℕ) (d : R) → j < length xs → p.distance (get_or xs j d) r ≤ p.bound (i + 1 + j) k) → (j : ℕ) (d : R) → j < length (x ∷ xs) → p.distance (get_or (x ∷ xs) j d) r ≤ p.bound (i + j) k
  first_kept k r i x xs h rest zero d l = let e : i ≡ i + 0 = omega arith in subst (λ n. p.distance x r ≤ p.bound n k) e h
  first_kept k r i x xs h rest (suc j) d l =
      let e : i + 1 + j ≡ i + suc j = omega arith in
      subst (λ n. p.distance (get_or xs j d) r ≤ p.bound n k) e (rest j d (omega arith))

  by_test : (k : ℕ) (r : R) (i : ℕ) (x : R) (xs : List R) (v w : V) → ((u : V) → row p c k r (i + 1) xs u ≡ Some w → Rowed k r (i + 1) xs u w)
      → (b : Bool) → leb (p.distance x r) (p.bound i k) ≡ b → next (cond b (Some (c.join v (c.worth (p.distance x r)))) None) None (λ u. row p c k r (i + 1) xs u) ≡ Some w → Rowed k r i (x ∷ xs) v w
  by_test k r i x xs v w ih true is e =
      let rest = ih (c.join v (c.worth (p.distance x r))) e in
      record { kept = first_kept k r i x xs (leb-true (p.distance x r) (p.bound i k) is) rest.kept; sum = rest.sum }
  by_test k r i x xs v w ih false is e = absurd (let z : ◌≡◌ {A = ℕ} 0 1 = cc in omega arith)

  pub row_rowed : (k : ℕ) (r : R) (i : ℕ) (xs : List R) (v w : V) → row p c k r i xs v ≡ Some w → Rowed k r i xs v w
  row_rowed k r i [] v w e = record { kept = λ j d l. absurd (omega arith); sum = cc }
  row_rowed k r i (x ∷ xs) v w e = by_test k r i x xs v w (λ u h. row_rowed k r (i + 1) xs u w h) (leb (p.distance x r) (p.bound i k)) refl e

  broken_by : (k : ℕ) (r : R) (i : ℕ) (x : R) (xs : List R) (v : V) (d : R) → ((u : V) → row p c k r (i + 1) xs u ≡ None → ((j : ℕ) → j < length xs → p.distance (get_or xs j d) r ≤ p.bound (i + 1 + j) k) → ⊥)
      → (b : Bool) → leb (p.distance x r) (p.bound i k) ≡ b → next (cond b (Some (c.join v (c.worth (p.distance x r)))) None) None (λ u. row p c k r (i + 1) xs u) ≡ None → ((j : ℕ) → j < length (x ∷ xs) → p.distance (get_or (x ∷ xs) j d) r ≤ p.bound (i + j) k) → ⊥
  broken_by k r i x xs v d ih true is e kept =
      ih (c.join v (c.worth (p.distance x r))) e
      (λ j l. let same : i + suc j ≡ i + 1 + j = omega arith in subst (λ n. p.distance (get_or xs j d) r ≤ p.bound n k) same (kept (suc j) (omega arith)))
  broken_by k r i x xs v d ih false is e kept =
      let over = leb-false (p.distance x r) (p.bound i k) is in
      let zero_more : i + 0 ≡ i = omega arith in
      let within : p.distance x r ≤ p.bound i k = subst (λ n. p.distance x r ≤ p.bound n k) zero_more (kept 0 (omega arith)) in omega arith

  -- there is none only if a pair breaks its bound
  pub row_broken : (k : ℕ) (r : R) (i : ℕ) (xs : List R) (v : V) (d : R) → row p c k r i xs v ≡ None → ((j : ℕ) → j < length xs → p.distance (get_or xs j d) r ≤ p.bound (i + j) k) → ⊥
  row_broken k r i [] v d e kept = let z : ◌≡◌ {A = ℕ} 0 1 = cc in omega arith
  row_broken k r i (x ∷ xs) v d e kept =
      broken_by k r i x xs v d (λ u h. row_broken k r (i + 1) xs u d h) (leb (p.distance x r) (p.bound i k)) refl e kept
