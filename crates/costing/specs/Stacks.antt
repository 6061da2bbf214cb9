-- What a stack holds, and what putting a value on and taking one off does to it.
use Rattle.std.specs.Prelude.{◌≡◌, ℕ, ◌+◌, List, [], ◌∷◌, ◌++◌, length, Ok, Err, Result, Some, None, Option}

-- the values held, the bottom first, and how many slots are free
pub record Held (V : Type 0) : Type 0 where
  pub values : List V
  pub free : ℕ

-- how many slots there are
abbrev pub room : {V : Type 0} → Held V → ℕ
room s = length s.values + s.free

-- v put on the values before, with room for n: it comes last; or, where there are n already, it is refused and they stay as they were
abbrev pub PutOn : {U E V : Type 0} → Result U E → ℕ → V → List V → List V → Type 0
PutOn (Ok _) n v before after = after ≡ before ++ (v ∷ [])
PutOn (Err _) n v before after = (length before ≡ n) × (after ≡ before)

-- the last of the values before taken off, which leaves the others; or, where there is none, no value
abbrev pub TakenOff : {V : Type 0} → Option V → List V → List V → Type 0
TakenOff None before after = (before ≡ []) × (after ≡ [])
TakenOff (Some v) before after = before ≡ after ++ (v ∷ [])
