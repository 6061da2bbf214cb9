-- The search as a function: from a start, through all that extends it, in list order. Only private functions cite this.
use Rattle.std.specs.Prelude.{ℕ, ◌+◌, Bool, false, cond, List, [], ◌∷◌, ◌++◌, length, Some, None, fold, Option, nat_le}
use Rattle.std.specs.List.{enumerate_from}
use Rattle.settling.specs.Settling.{Costing, Problem}

-- What a search has found: the best cost with its numbers, and how many trials there were.
pub record Found (V : Type 0) : Type 0 where
  pub best : Option (V × List ℕ)
  pub trials : ℕ

-- One trial more.
abbrev pub counted : {V : Type 0} → Found V → Found V
counted f = record { best = f.best; trials = f.trials + 1 }

-- What follows from a value, or w where there is none.
abbrev pub next : {V W : Type 0} → Option V → W → (V → W) → W
next None w f = w
next (Some v) w f = f v

-- The best so far costs no more than v.
abbrev pub beaten : {V : Type 0} → Costing V → Option (V × List ℕ) → V → Bool
beaten c None v = false
beaten c (Some b) v = c.no_more b.0 v

-- The cost v with the pair of x at tone i and r at tone k, unless the pair breaks its bound.
abbrev pub paired : {R V : Type 0} → Problem R → Costing V → ℕ → ℕ → R → R → V → Option V
paired p c i k x r v = cond (nat_le (p.distance x r) (p.bound i k)) (Some (c.join v (c.worth (p.distance x r)))) None

-- The cost v with the pairs of r at tone k and each of the ratios laid from tone i on, unless one breaks its bound.
abbrev pub row : {R V : Type 0} → Problem R → Costing V → ℕ → R → ℕ → List R → V → Option V
row p c k r i [] v = Some v
row p c k r i (x ∷ xs) v = next (paired p c i k x r v) None (λ w. row p c k r (i + 1) xs w)

-- All that extends the start with the ratios `laid` and the numbers `s` by the tones of `rest`, at the cost v so far.
unfoldable pub explore : {R V : Type 0} → Problem R → Costing V → List (List R) → List R → List ℕ → V → Found V → Found V
explore p c [] laid s v f = cond (beaten c f.best v) f (record { best = Some (v, s); trials = f.trials })
explore p c (cs ∷ rest) laid s v f =
    cond (beaten c f.best v) f (fold (λ g x. next (row p c (length laid) x.1 0 laid v) (counted g) (λ w. explore p c rest (laid ++ (x.1 ∷ [])) (s ++ (x.0 ∷ [])) w (counted g))) f (enumerate_from 0 cs))

-- The trial of one numbered candidate for the next tone.
abbrev pub step : {R V : Type 0} → Problem R → Costing V → List (List R) → List R → List ℕ → V → Found V → ℕ × R → Found V
step p c rest laid s v g x =
    next (row p c (length laid) x.1 0 laid v) (counted g) (λ w. explore p c rest (laid ++ (x.1 ∷ [])) (s ++ (x.0 ∷ [])) w (counted g))
