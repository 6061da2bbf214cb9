-- Which choices a search has come past, and the best of those.
use Rattle.std.proofs.Common.{◌≡◌, ℕ, ◌+◌, ◌<◌, true, false, ◌⊎◌, List, [], ◌∷◌, ◌++◌, length, get_or, take, drop, Some, None, Option, sym, refl, ap, ◌∙◌, subst, inl, inr, ⊎_elim, arith}
use Rattle.std.proofs.lemmas.List.{length_push, length-take-le, take_more, take-append-drop, same_from_push, take_all}
use Rattle.std.proofs.lemmas.Bool.{cases_Bool, both_ways, cases_eq}
use Rattle.settling.specs.Settling.{Costing, Lawful, Problem, Choice, before, keeps, cost, live}
use Rattle.settling.proofs.Order.{before_append, before_from_take, before_push, before_push_cases}
use Rattle.settling.proofs.Kept.{cost_grows}
use Rattle.settling.proofs.Live.{live_free, live_from}
use Rattle.settling.specs.Explore.{beaten}

-- The first numbers of t come before s.
abbrev pub Passed : List ℕ → List ℕ → Type 0
Passed s t = before (take (length s) t) s ≡ true

-- t extends s.
abbrev pub Under : List ℕ → List ℕ → Type 0
Under s t = take (length s) t ≡ s

-- t comes before s, or extends s.
abbrev pub Through : List ℕ → List ℕ → Type 0
Through s t = Passed s t ⊎ Under s t

-- t comes before s, or extends s by a number below n.
abbrev pub Upto : List ℕ → ℕ → List ℕ → Type 0
Upto s n t = Passed s t ⊎ (Under s t × (get_or t (length s) 0 < n))

module _ (s t : List ℕ) (h : length s < length t) where
  one_more : (n : ℕ) → take (length (s ++ (n ∷ []))) t ≡ take (length s) t ++ (get_or t (length s) 0 ∷ [])
  one_more n = ap (λ k. take k t) (length_push s n) ∙ take_more t (length s) 0 h

  pub passed_upto : (n : ℕ) → Passed (s ++ (n ∷ [])) t → Upto s n t
  passed_upto n e =
      before_push_cases (take (length s) t) s (get_or t (length s) 0) n (length-take-le (length s) t (omega arith))
      (subst (λ l. before l (s ++ (n ∷ [])) ≡ true) (one_more n) e)

  pub upto_passed : (n : ℕ) → Upto s n t → Passed (s ++ (n ∷ [])) t
  upto_passed n u =
      subst (λ l. before l (s ++ (n ∷ [])) ≡ true) (sym (one_more n))
      (⊎_elim (λ e. before_append (take (length s) t) s (get_or t (length s) 0 ∷ []) (n ∷ []) e)
      (λ x. subst (λ l. before (l ++ (get_or t (length s) 0 ∷ [])) (s ++ (n ∷ [])) ≡ true) (sym x.0) (before_push s (get_or t (length s) 0) n x.1))
      u)

  pub under_push : (n : ℕ) → Under s t → get_or t (length s) 0 ≡ n → Under (s ++ (n ∷ [])) t
  under_push n u e = one_more n ∙ (λ i. u i ++ (e i ∷ []))

  pub push_under : (n : ℕ) → Under (s ++ (n ∷ [])) t → Under s t × (get_or t (length s) 0 ≡ n)
  push_under n u = same_from_push (take (length s) t) s (get_or t (length s) 0) n (sym (one_more n) ∙ u)

  pub through_upto : (n : ℕ) → Through (s ++ (n ∷ [])) t → Upto s (n + 1) t
  through_upto n u =
      ⊎_elim
      (λ e. ⊎_elim (λ a. inl a) (λ b. inr (b.0, let l = b.1 in omega arith)) (passed_upto n e))
      (λ e. let parts = push_under n e in inr (parts.0, let same = parts.1 in omega arith))
      u

  pub upto_through : (n : ℕ) → Upto s (n + 1) t → Through (s ++ (n ∷ [])) t
  upto_through n u =
      ⊎_elim (λ e. inl (upto_passed n (inl e)))
      (λ b. ⊎_elim (λ same. inr (under_push n b.0 same)) (λ other. inl (upto_passed n (inr (b.0, let l = b.1 in omega arith)))) (cases_eq (get_or t (length s) 0) n))
      u

module _ {R : Type 0} (p : Problem R) (none : R) {V : Type 0} (c : Costing V) where
  -- Of the choices in D that keep the bounds, s is the first of the cheapest, at the cost v.
  pub record BestOf (D : List ℕ → Type 0) (v : V) (s : List ℕ) : Type 0 where
    pub choice : Choice p.candidates s
    pub kept : keeps p none s ≡ true
    pub is : v ≡ cost p none c s
    pub inside : D s
    pub cheapest : (t : List ℕ) → Choice p.candidates t → keeps p none t ≡ true → D t → c.no_more v (cost p none c t) ≡ true
    pub first : (t : List ℕ) → Choice p.candidates t → keeps p none t ≡ true → D t → cost p none c t ≡ v → (t ≡ s → ⊥) → before s t ≡ true

  -- What is found is right for the choices in D.
  abbrev pub Right : (List ℕ → Type 0) → Option (V × List ℕ) → Type 0
  Right D None = (t : List ℕ) → Choice p.candidates t → keeps p none t ≡ true → D t → ⊥
  Right D (Some b) = BestOf D b.0 b.1

  -- what is right for D is right for E, if they have the same kept choices
  pub right_same : (D E : List ℕ → Type 0) → ((t : List ℕ) → Choice p.candidates t → keeps p none t ≡ true → D t → E t)
      → ((t : List ℕ) → Choice p.candidates t → keeps p none t ≡ true → E t → D t) → (o : Option (V × List ℕ)) → Right D o → Right E o
  right_same D E to from None r = λ t ch k e. r t ch k (from t ch k e)
  right_same D E to from (Some b) r = record {
    choice = r.choice;
    kept = r.kept;
    is = r.is;
    inside = to b.1 r.choice r.kept r.inside;
    cheapest = λ t ch k e. r.cheapest t ch k (from t ch k e);
    first = λ t ch k e. r.first t ch k (from t ch k e);
  }

  module _ (law : Lawful c) (s : List ℕ) (v : V) (is : v ≡ cost p none c s) where
    -- the best before s beats s exactly if s is not live
    pub beaten_dead : (o : Option (V × List ℕ)) → Right (Passed s) o → beaten c o v ≡ true → live p none c s ≡ false
    beaten_dead None r e = absurd (both_ways false refl e)
    beaten_dead (Some b) r e =
        ⊎_elim
        (λ l. absurd (live_free p none c s l record { bar = b.1; choice = r.choice; earlier = r.inside; kept = r.kept; cheap = subst (λ u. c.no_more u (cost p none c s) ≡ true) r.is (subst (λ u. c.no_more b.0 u ≡ true) is e) }))
        (λ d. d) (cases_Bool (live p none c s))

    pub unbeaten_live : (o : Option (V × List ℕ)) → Right (Passed s) o → keeps p none s ≡ true → beaten c o v ≡ false → live p none c s ≡ true
    unbeaten_live None r k e = live_from p none c s k (λ b. r b.bar b.choice b.kept b.earlier)
    unbeaten_live (Some o) r k e =
        live_from p none c s k
        (λ b. both_ways (c.no_more o.0 v) e
        (subst (λ u. c.no_more o.0 u ≡ true) (sym is)
        (law.transitive o.0 (cost p none c b.bar) (cost p none c s) (r.cheapest b.bar b.choice b.kept b.earlier) b.cheap)))

    above : (t : List ℕ) → Under s t → c.no_more v (cost p none c t) ≡ true
    above t u =
        let whole : s ++ drop (length s) t ≡ t = ap (λ l. l ++ drop (length s) t) (sym u) ∙ take-append-drop (length s) t in
        subst (λ w. c.no_more w (cost p none c t) ≡ true) (sym is) (subst (λ l. c.no_more (cost p none c s) (cost p none c l) ≡ true) whole (cost_grows p none c law s (drop (length s) t)))

    -- where the best before s beats s, it is the best through s
    pub beaten_through : (o : Option (V × List ℕ)) → Right (Passed s) o → beaten c o v ≡ true → Right (Through s) o
    beaten_through None r e = absurd (both_ways false refl e)
    beaten_through (Some b) r e = record {
      choice = r.choice;
      kept = r.kept;
      is = r.is;
      inside = inl r.inside;
      cheapest = λ t ch k x. ⊎_elim (λ q. r.cheapest t ch k q) (λ u. law.transitive b.0 v (cost p none c t) e (above t u)) x;
      first = λ t ch k x same other. ⊎_elim (λ q. r.first t ch k q same other) (λ u. before_from_take (length s) b.1 t (subst (λ l. before (take (length s) b.1) l ≡ true) (sym u) r.inside)) x;
    }

    less : (o : V × List ℕ) → Right (Passed s) (Some o) → c.no_more o.0 v ≡ false → (t : List ℕ) → Choice p.candidates t → keeps p none t ≡ true → Passed s t → c.no_more v (cost p none c t) ≡ true
    less o r e t ch k q =
        ⊎_elim (λ more. absurd (both_ways (c.no_more o.0 v) e more)) (λ fewer. law.transitive v o.0 (cost p none c t) fewer (r.cheapest t ch k q)) (law.total o.0 v)

    -- where s is a choice that nothing before it beats, it is the best through s
    module _ (choice : Choice p.candidates s) (kept : keeps p none s ≡ true) where
      itself : (t : List ℕ) → Choice p.candidates t → Under s t → t ≡ s
      itself t ch u = sym (take_all (length s) t (omega (arith, ch.full, choice.full))) ∙ u

      pub leaf_through : (o : Option (V × List ℕ)) → Right (Passed s) o → beaten c o v ≡ false → Right (Through s) (Some (v, s))
      leaf_through None r e = record {
        choice = choice;
        kept = kept;
        is = is;
        inside = inr (take_all (length s) s (omega arith));
        cheapest = λ t ch k x. ⊎_elim (λ q. absurd (r t ch k q)) (λ u. above t u) x;
        first = λ t ch k x same other. ⊎_elim (λ q. absurd (r t ch k q)) (λ u. absurd (other (itself t ch u))) x;
      }
      leaf_through (Some o) r e = record {
        choice = choice;
        kept = kept;
        is = is;
        inside = inr (take_all (length s) s (omega arith));
        cheapest = λ t ch k x. ⊎_elim (λ q. less o r e t ch k q) (λ u. above t u) x;
        first = λ t ch k x same other. ⊎_elim (λ q. absurd (both_ways (c.no_more o.0 v) e (subst (λ w. c.no_more o.0 w ≡ true) same (r.cheapest t ch k q)))) (λ u. absurd (other (itself t ch u))) x;
      }
