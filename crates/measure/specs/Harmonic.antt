-- Disharmonicity and harmonic distance as Albert Gräf defines them (on the rationalization of musical scales, 2002), with
-- the disharmonicities of the primes in whole units.
use Rattle.std.specs.Prelude.{◌≡◌, ℕ, ◌+◌, ◌*◌, List, [], ◌∷◌, length, ℤ, unsigned_abs}
use Rattle.ratio.specs.declared.ratio.Ratio.{Ratio}
use Rattle.ratio.specs.Entry.{Quotient}
use Rattle.ratio.specs.Products.{numerator, denominator}

-- the sum of each prime's disharmonicity times its multiplicity, a negative one taken as positive
abbrev pub sum_by_primes : List ℕ → List ℤ → ℕ
sum_by_primes [] es = 0
sum_by_primes (w ∷ ws) [] = 0
sum_by_primes (w ∷ ws) (e ∷ es) = unsigned_abs e * w + sum_by_primes ws es

-- g is the disharmonicity of the rational number n/d: with its primes to their powers, the sum by these primes
pub record Disharmonicity (ws : List ℕ) (n d g : ℕ) : Type 0 where
  pub powers : List ℤ
  pub six : length powers ≡ 6
  pub factors : Quotient n d powers
  pub sum : g ≡ sum_by_primes ws powers

-- g is the harmonic distance of two ratios: the disharmonicity of the interval x/y between them
abbrev pub HarmonicDistance : List ℕ → Ratio → Ratio → ℕ → Type 0
HarmonicDistance ws x y g =
    Disharmonicity ws (numerator x.exponents * denominator y.exponents) (denominator x.exponents * numerator y.exponents) g

-- on whole numbers the disharmonicity of a product is the sum of those of its factors
abbrev pub Additive : List ℕ → Type 0
Additive ws = (x y g h : ℕ) → Disharmonicity ws x 1 g → Disharmonicity ws y 1 h → Disharmonicity ws (x * y) 1 (g + h)

-- g is the sum of the disharmonicities of the whole numbers n and d
pub record SumOfParts (ws : List ℕ) (n d g : ℕ) : Type 0 where
  pub above : ℕ
  pub below : ℕ
  pub of_numerator : Disharmonicity ws n 1 above
  pub of_denominator : Disharmonicity ws d 1 below
  pub sum : g ≡ above + below
