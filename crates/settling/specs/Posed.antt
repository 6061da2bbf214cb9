-- The problem that a book poses.
use Rattle.std.specs.Prelude.{ℕ, List, map}
use Rattle.costing.specs.declared.costing.Costing.{Ghosts}
use Rattle.draft.specs.Book.{Book}
use Rattle.ratio.specs.declared.ratio.Ratio.{Ratio}
use Rattle.settling.specs.Settling.{Costing, Problem}

-- the candidates of each tone of the book
abbrev pub rows : Book → List (List Ratio)
rows b = map (λ n. n.candidates) b.tones

-- to settle the tones of the book within its bounds, by a distance
abbrev pub problem : (Ratio → Ratio → ℕ) → Book → Problem Ratio
problem distance b = record { candidates = rows b; distance = distance; bound = b.bound }

-- what a costing of the bench means, by its four ghost members that are no laws
abbrev pub meant : {S V : Type 0} → Ghosts S V → Costing V
meant c = record { nil = c.nil; worth = c.worth; join = c.join; no_more = c.within }
