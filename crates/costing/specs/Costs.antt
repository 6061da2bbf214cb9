-- How values of costs are joined and compared.
use Rattle.std.specs.Prelude.{ℕ, ◌+◌, ◌-◌, ◌^◌, min, max, Bool, ◌&&◌, ◌||◌, ◌==◌, nat_le, nat_lt}

-- The sum of two numbers, stopped at the largest number of 64 bits, and no less than either.
-- Of numbers of 64 bits it is the stopped sum. The laws of a costing speak of larger numbers too, and there the stopped sum
-- would be less than its parts, and 0 would not be neutral.
abbrev pub added : ℕ → ℕ → ℕ
added a b = max (max a b) (min (a + b) (2 ^ 64 - 1))

-- the larger of the first numbers, and the second numbers added
abbrev pub pair_joined : ℕ × ℕ → ℕ × ℕ → ℕ × ℕ
pair_joined a b = (max a.0 b.0, added a.1 b.1)

-- whether the first pair is no more: by the first numbers, and where these are equal by the second
abbrev pub pair_within : ℕ × ℕ → ℕ × ℕ → Bool
pair_within a b = nat_lt a.0 b.0 || (a.0 == b.0 && nat_le a.1 b.1)
