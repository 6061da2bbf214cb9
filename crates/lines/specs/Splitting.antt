-- The lines of an input, which byte 10 ends.
use Rattle.std.specs.Prelude.{◌≡◌, ℕ, cond, List, [], ◌∷◌, ◌++◌, ◌==◌, ◌≢◌}
use Rattle.std.specs.List.{flat_map, AllByRecursion}

-- the lines that byte 10 ends in the bytes, if `line` is what the first of them begins with
abbrev pub ended_on : List ℕ → List ℕ → List (List ℕ)
ended_on line [] = []
ended_on line (b ∷ bs) = cond (b == 10) (line ∷ ended_on [] bs) (ended_on (line ++ (b ∷ [])) bs)

-- the bytes after the last byte 10, and all of them after `line` if there is none
abbrev pub open_on : List ℕ → List ℕ → List ℕ
open_on line [] = line
open_on line (b ∷ bs) = cond (b == 10) (open_on [] bs) (open_on (line ++ (b ∷ [])) bs)

-- the lines of an input that byte 10 has ended, without it
abbrev pub ended : List ℕ → List (List ℕ)
ended bs = ended_on [] bs

-- the bytes of an input after its last byte 10
abbrev pub open_line : List ℕ → List ℕ
open_line bs = open_on [] bs

-- the line alone, or no line if it is empty
abbrev pub unless_empty : List ℕ → List (List ℕ)
unless_empty [] = []
unless_empty (b ∷ bs) = (b ∷ bs) ∷ []

-- the lines of a whole input: those that byte 10 has ended, and the open one unless it is empty
abbrev pub all_lines : List ℕ → List (List ℕ)
all_lines bs = ended bs ++ unless_empty (open_line bs)

-- the input that has these lines, each with byte 10 after it, and then the open line
abbrev pub rejoin : List (List ℕ) → List ℕ → List ℕ
rejoin lines rest = flat_map (λ line. line ++ (10 ∷ [])) lines ++ rest

-- no byte of the line is 10
abbrev pub Unbroken : List ℕ → Type 0
Unbroken line = AllByRecursion (λ b. b ≢ 10) line

-- the ended lines and the open line are the input, cut at each byte 10 and nowhere else
pub record Split (input : List ℕ) : Type 0 where
  pub rejoins : rejoin (ended input) (open_line input) ≡ input
  pub unbroken : AllByRecursion Unbroken (ended input)
  pub last_unbroken : Unbroken (open_line input)
