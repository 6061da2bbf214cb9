-- How far a search has come, against the search as a function. Only private functions cite this.
use Rattle.std.specs.Prelude.{◌≡◌, ℕ, ◌<◌, ◌≤◌, List, map, length, take, drop, Some, None, Option}
use Rattle.costing.specs.Stacks.{room}
use Rattle.draft.specs.Book.{Book}
use Rattle.draft.specs.Held.{Holds}
use Rattle.draft.specs.declared.draft.Draft.{Draft}
use Rattle.ratio.specs.declared.ratio.Ratio.{Ratio}
use Rattle.settling.specs.Explore.{Found, explore}
use Rattle.settling.specs.Posed.{rows, problem}
use Rattle.settling.specs.Settling.{Costing}
use Rattle.settling.specs.declared.search.Best.{Best}
use Rattle.settling.specs.declared.search.Laid.{Laid}
use Rattle.settling.specs.declared.search.Search.{Search}

-- the ratios that are laid
abbrev pub ratios : List Laid → List Ratio
ratios laid = map (λ l. l.ratio) laid

-- the numbers of the candidates that are laid
abbrev pub numbers : List Laid → List ℕ
numbers laid = map (λ l. l.number) laid

-- the best cost with the first n numbers of the sheet
abbrev pub seen : {V : Type 0} → ℕ → Option (Best V) → Option (V × List ℕ)
seen n None = None
seen n (Some b) = Some (b.cost, take n b.sheet)

-- what a search has found, in a scale of n tones
abbrev pub found : {V : Type 0} → ℕ → Search V → Found V
found n s = record { best = seen n s.best; trials = s.trials }

-- what the search below the first k tones is to find, from what is found before it
abbrev pub searched : {V : Type 0} → (Ratio → Ratio → ℕ) → Costing V → Book → ℕ → V → Search V → Found V
searched dist c b k v s = explore (problem dist b) c (drop k (rows b)) (ratios (take k s.laid)) (numbers (take k s.laid)) v (found (length b.tones) s)

-- the search below the first k tones went through within the allowance, and found what it is to find
pub record Went {V : Type 0} (dist : Ratio → Ratio → ℕ) (c : Costing V) (d : Draft) (allowance k : ℕ) (v : V) (before after : Search V) : Type 0 where
  pub laid : take k after.laid ≡ take k before.laid
  pub costs : after.costs.values ≡ before.costs.values
  pub size : room after.costs ≡ room before.costs
  pub within : after.trials ≤ allowance
  pub finds : (b : Book) → Holds d b → found (length b.tones) after ≡ searched dist c b k v before

-- it would take more trials than are allowed
pub record Overspent {V : Type 0} (dist : Ratio → Ratio → ℕ) (c : Costing V) (d : Draft) (allowance k : ℕ) (v : V) (before : Search V) : Type 0 where
  pub over : (b : Book) → Holds d b → allowance < (searched dist c b k v before).trials
