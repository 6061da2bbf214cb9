-- The words of a line, cut at each space, which is byte 32.
use Rattle.std.specs.Prelude.{◌≡◌, ℕ, ◌+◌, List, [], ◌∷◌, map, length, ◌==◌, Option, ◌≢◌, slice_get, slice_index, slice_index_or}
use Rattle.std.specs.List.{AllByRecursion, slice_split, join_with_byte}

-- the words of a line; where a space stands beside another or at an end, a word is empty
abbrev pub words : List ℕ → List (List ℕ)
words line = slice_split (λ c. c == 32) line

-- the words of a line are the line cut at each space and nowhere else
pub record CutAtSpaces (line : List ℕ) : Type 0 where
  pub whole : join_with_byte 32 (words line) ≡ line
  pub spaceless : AllByRecursion (λ w. AllByRecursion (λ c. c ≢ 32) w) (words line)

-- each word with its column, if the first stands at this one: as many columns on as the words before it and the spaces
-- behind them have bytes
abbrev pub placed : ℕ → List (List ℕ) → List (List ℕ × ℕ)
placed column [] = []
placed column (w ∷ ws) = (w, column) ∷ placed (column + length w + 1) ws

-- word k of a line, of which word 0 names the command
abbrev pub word : List ℕ → ℕ → List ℕ
word line k = slice_index_or (words line) k []

-- the columns of the words of a line; columns count bytes from 1
abbrev pub word_columns : List ℕ → List ℕ
word_columns line = map (λ w. w.1) (placed 1 (words line))

-- the column of word k
abbrev pub word_column : List ℕ → ℕ → ℕ
word_column line k = slice_index (word_columns line) k

-- the column of word k, if there is such a word
abbrev pub column_at : List ℕ → ℕ → Option ℕ
column_at line k = slice_get (word_columns line) k
