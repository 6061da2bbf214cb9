-- The three costings of the bench, each by its four meanings.
use Rattle.std.specs.Prelude.{ℕ, max, nat_le}
use Rattle.costing.specs.Costs.{added, pair_joined, pair_within}
use Rattle.settling.specs.Settling.{Costing}

-- The sum of the distances.
abbrev pub total : Costing ℕ
total = record { nil = 0; worth = λ d. d; join = added; no_more = nat_le }

-- The largest of the distances.
abbrev pub worst : Costing ℕ
worst = record { nil = 0; worth = λ d. d; join = max; no_more = nat_le }

-- The largest of the distances, and where that is equal their sum.
abbrev pub worst_then_total : Costing (ℕ × ℕ)
worst_then_total = record { nil = (0, 0); worth = λ d. (d, d); join = pair_joined; no_more = pair_within }
