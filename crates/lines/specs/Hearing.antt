-- What a line holds of the bytes that were read.
use Rattle.std.specs.Prelude.{◌≡◌, ℕ, List, [], ◌∷◌, ◌++◌, Some, None, Option, take, ◌≢◌}
use Rattle.places.specs.Listed.{listed}
use Rattle.lines.specs.declared.line.Line.{Line}

-- the bytes that a line holds
abbrev pub held : Line → List ℕ
held line = listed line.bytes

-- the line holds the first 81 bytes of `past`, the bytes since the last line end
abbrev pub Heard : Line → List ℕ → Type 0
Heard line past = held line ≡ take 81 past

-- to the lines `before` one is added, `line`, of which `told` holds the first 81 bytes; or they stay as they are
abbrev pub OneMore : Option Line → List ℕ → List (List ℕ) → List (List ℕ) → Type 0
OneMore None line before after = after ≡ before
OneMore (Some told) line before after = Heard told line × (after ≡ before ++ (line ∷ []))

-- one byte more was heard of a line, after `past`: byte 10 ends it, which is told as far as it is kept, and a new line begins; any other byte goes on
-- with it
abbrev pub OneByte : ℕ → List ℕ → Option Line → Line → Type 0
OneByte byte past None now = (byte ≢ 10) × Heard now (past ++ (byte ∷ []))
OneByte byte past (Some told) now = (byte ≡ 10) × Heard told past × Heard now []
