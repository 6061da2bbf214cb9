-- A number taken apart into powers of the six primes and a rest. Only private functions cite this.
use Rattle.std.specs.Prelude.{◌≡◌, ℕ, ◌%◌, List, [], ◌∷◌, ℤ, pos, ◌-ℤ◌}
use Rattle.std.specs.List.{AllByRecursion}

-- n is no multiple of p
abbrev pub Misses : ℕ → ℕ → Type 0
Misses p n = n % p ≡ 0 → ⊥

-- none of the primes divides the rest
abbrev pub Without : List ℕ → ℕ → Type 0
Without ps rest = AllByRecursion (λ p. Misses p rest) ps

-- the differences of two lists of multiplicities
abbrev pub minus : List ℕ → List ℕ → List ℤ
minus [] ys = []
minus (x ∷ xs) [] = []
minus (x ∷ xs) (y ∷ ys) = (pos x -ℤ pos y) ∷ minus xs ys
