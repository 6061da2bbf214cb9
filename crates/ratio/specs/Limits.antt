-- How large the exponents of a ratio can be.
use Rattle.std.specs.Prelude.{ℕ, ◌≤◌, List, [], ◌∷◌, ℤ, unsigned_abs}

-- the largest exponent of each prime whose power is at most 4,294,967,295
abbrev pub limits : List ℕ
limits = 31 ∷ (20 ∷ (13 ∷ (11 ∷ (9 ∷ (8 ∷ [])))))

-- each exponent is at most its limit, above zero and below it
abbrev pub Within : List ℕ → List ℤ → Type 0
Within [] es = Unit {0}
Within (l ∷ ls) [] = Unit {0}
Within (l ∷ ls) (e ∷ es) = (unsigned_abs e ≤ l) × Within ls es
