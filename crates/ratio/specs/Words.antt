-- The words of a line that digits make: a numeral, and the two numerals of a ratio word.
use Rattle.std.specs.Prelude.{◌≡◌, ℕ, ◌+◌, ◌-◌, ◌*◌, ◌≤◌, List, [], ◌∷◌, ◌++◌, length, Some, None, Option}

-- a byte from `0`, which is 48, to `9`
abbrev pub Digit : ℕ → Type 0
Digit c = (48 ≤ c) × (c ≤ 57)

-- every byte is a digit
abbrev pub Digits : List ℕ → Type 0
Digits [] = Unit {0}
Digits (c ∷ cs) = Digit c × Digits cs

-- the number that digits write after others that write n: each digit adds its worth to ten times what came before
abbrev pub value_on : ℕ → List ℕ → ℕ
value_on n [] = n
value_on n (c ∷ cs) = value_on (n * 10 + (c - 48)) cs

-- the number that digits write
abbrev pub value : List ℕ → ℕ
value cs = value_on 0 cs

-- one to ten digits; zeros may lead
pub record Numeral (cs : List ℕ) : Type 0 where
  pub some : 1 ≤ length cs
  pub few : length cs ≤ 10
  pub digits : Digits cs

-- the word w is the numeral a, a slash, which is 47, and the numeral b
pub record RatioWord (w a b : List ℕ) : Type 0 where
  pub above : Numeral a
  pub below : Numeral b
  pub joined : w ≡ a ++ (47 ∷ b)

-- what a word is read as: a ratio word as the numbers that its two numerals write, and any other word as nothing
abbrev pub PartsRead : List ℕ → Option (ℕ × ℕ) → Type 0
PartsRead w None = (a b : List ℕ) → RatioWord w a b → ⊥
PartsRead w (Some p) = (a : List ℕ) × ((b : List ℕ) × (RatioWord w a b × (p ≡ (value a, value b))))
