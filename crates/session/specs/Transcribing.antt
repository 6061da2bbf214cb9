-- A whole input and what is answered to it.
use Rattle.std.specs.Prelude.{◌≡◌, ℕ, ◌≤◌, List, [], length, drop}
use Rattle.std.specs.List.{flat_map}
use Rattle.lines.specs.Hearing.{Heard, held}
use Rattle.lines.specs.Splitting.{ended, open_line, all_lines}
use Rattle.session.specs.Following.{Followed, HeardOne}
use Rattle.session.specs.declared.transcript.Transcript.{Transcript}

-- texts one after another
abbrev pub in_a_row : List (List ℕ) → List ℕ
in_a_row texts = flat_map (λ text. text) texts

-- the transcript has heard these bytes since it began, and has said the answers to the lines that byte 10 has ended there
pub record Transcribed (t : Transcript) (past said : List ℕ) : Type 0 where
  pub heard : Heard t.line (open_line past)
  pub answers : List (List ℕ)
  pub followed : Followed t.session (ended past) answers
  pub spoken : said ≡ in_a_row answers

-- the input is at its end: the session has heard all its lines, the last one too if byte 10 has not ended it, and has said the
-- answers to them; the transcript is ready for a new line
pub record Finished (t : Transcript) (past said : List ℕ) : Type 0 where
  pub heard : Heard t.line []
  pub answers : List (List ℕ)
  pub followed : Followed t.session (all_lines past) answers
  pub spoken : said ≡ in_a_row answers

-- the first n bytes of the buffer were written, and the others stay
pub record Wrote (buffer filled : List ℕ) (n : ℕ) : Type 0 where
  pub within : n ≤ length buffer
  pub rest : drop n filled ≡ drop n buffer

-- the line that was read is answered, and is still there
pub record LineAnswered (before after : Transcript) (buffer filled : List ℕ) (n : ℕ) : Type 0 where
  pub one : HeardOne before.session after.session (held before.line) buffer filled n
  pub room : 1280 ≤ length buffer
  pub line : after.line ≡ before.line
