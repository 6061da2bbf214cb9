-- Cents without a minus. Only private functions cite this.
use Rattle.std.specs.Prelude.{◌≡◌, ℕ, false, List, ℤ, Some, None, Option}
use Rattle.command.specs.Forms.{CentsWord, cents}

-- what a word is read as: a word of cents without a minus as its number of thousandths, and any other word as nothing
abbrev pub UnsignedRead : List ℕ → Option ℤ → Type 0
UnsignedRead w None = (a b : List ℕ) → CentsWord w false a b → ⊥
UnsignedRead w (Some p) = (a : List ℕ) × ((b : List ℕ) × (CentsWord w false a b × (p ≡ cents false a b)))
