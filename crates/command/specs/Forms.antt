-- The forms of words, and what a word of each form writes.
use Rattle.std.specs.Prelude.{◌≡◌, ℕ, ◌+◌, ◌*◌, ◌≤◌, Bool, cond, List, [], ◌∷◌, ◌++◌, length, ℤ, pos, neg_ℤ, Some, None, Option}
use Rattle.ratio.specs.Words.{Digits, Numeral, value}

-- what a word is read as: one to ten digits as the number that they write, and any other word as nothing
abbrev pub NumberRead : List ℕ → Option ℕ → Type 0
NumberRead w None = Numeral w → ⊥
NumberRead w (Some n) = Numeral w × (n ≡ value w)

-- a word of cents: a minus, which is 45, or none; one to five digits; a period, which is 46; three digits
pub record CentsWord (w : List ℕ) (minus : Bool) (wholes thousandths : List ℕ) : Type 0 where
  pub some : 1 ≤ length wholes
  pub few : length wholes ≤ 5
  pub three : length thousandths ≡ 3
  pub digits : Digits (wholes ++ thousandths)
  pub joined : w ≡ cond minus (45 ∷ []) [] ++ (wholes ++ (46 ∷ thousandths))

-- the number of thousandths that wholes and thousandths write, below zero with a minus
abbrev pub cents : Bool → List ℕ → List ℕ → ℤ
cents minus wholes thousandths = cond minus (neg_ℤ (pos (value wholes * 1000 + value thousandths))) (pos (value wholes * 1000 + value thousandths))

-- what a word is read as: a word of cents as its number of thousandths, and any other word as nothing
abbrev pub CentsRead : List ℕ → Option ℤ → Type 0
CentsRead w None = (minus : Bool) (a b : List ℕ) → CentsWord w minus a b → ⊥
CentsRead w (Some p) = (minus : Bool) × ((a : List ℕ) × ((b : List ℕ) × (CentsWord w minus a b × (p ≡ cents minus a b))))
