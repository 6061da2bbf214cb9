-- The clauses of the search.
use Rattle.std.proofs.Common.{◌≡◌, ℕ, true, false, List, [], ◌∷◌, Some, fold}
use Rattle.std.proofs.lemmas.Bool.{cond-true, cond-false}
use Rattle.std.specs.List.{enumerate_from}
use Rattle.settling.specs.Settling.{Costing, Problem}
use Rattle.settling.specs.Explore.{Found, beaten, explore, step}

module _ {R V : Type 0} (p : Problem R) (c : Costing V) where
  pub explore_beaten : (rest : List (List R)) (laid : List R) (s : List ℕ) (v : V) (f : Found V) → beaten c f.best v ≡ true → explore p c rest laid s v f ≡ f
  unfolding explore
  explore_beaten [] laid s v f e = cond-true (beaten c f.best v) f (record { best = Some (v, s); trials = f.trials }) e
  explore_beaten (cs ∷ rest) laid s v f e = cond-true (beaten c f.best v) f (fold (step p c rest laid s v) f (enumerate_from 0 cs)) e

  pub explore_end : (laid : List R) (s : List ℕ) (v : V) (f : Found V) → beaten c f.best v ≡ false → explore p c [] laid s v f ≡ record { best = Some (v, s); trials = f.trials }
  unfolding explore
  explore_end laid s v f e = cond-false (beaten c f.best v) f (record { best = Some (v, s); trials = f.trials }) e

  pub explore_tone : (cs : List R) (rest : List (List R)) (laid : List R) (s : List ℕ) (v : V) (f : Found V) → beaten c f.best v ≡ false → explore p c (cs ∷ rest) laid s v f ≡ fold (step p c rest laid s v) f (enumerate_from 0 cs)
  unfolding explore
  explore_tone cs rest laid s v f e = cond-false (beaten c f.best v) f (fold (step p c rest laid s v) f (enumerate_from 0 cs)) e
