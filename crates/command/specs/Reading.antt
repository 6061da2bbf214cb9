-- What a line says.
use Rattle.std.specs.Prelude.{◌≡◌, ℕ, suc, ◌<◌, ◌≤◌, cond, List, [], length, ℤ, Some, Ok, Err, codes, Result, ◌==◌, ◌≢◌}
use Rattle.std.specs.List.{AllByRecursion}
use Rattle.draft.specs.declared.call.Call.TheVariants.{Tone as ToneCall, Try as TryCall, Strike as StrikeCall, Bound as BoundCall, Level as LevelCall}
use Rattle.ratio.specs.Words.{Numeral, PartsRead}
use Rattle.settling.specs.declared.step.Step.{Step}
use Rattle.settling.specs.declared.step.Step.TheVariants.{Enter, Settle as SettleStep}
use Rattle.command.specs.Forms.{NumberRead, CentsRead}
use Rattle.command.specs.Words.{words, word, word_column, column_at}
use Rattle.command.specs.declared.command.Verb.{Verb}
use Rattle.command.specs.declared.command.Verb.TheVariants.{Tone, Try, Strike, Bound, Level, Settle}
use Rattle.command.specs.declared.command.Columns.{Columns}
use Rattle.command.specs.declared.command.Command.{Command}
use Rattle.command.specs.declared.fault.TextFault.{TextFault}
use Rattle.command.specs.declared.fault.TextFault.TheVariants.{TooLong, NoCommand, WrongWords, NoForm}

-- the word of each command
abbrev pub verb_word : Verb → List ℕ
verb_word Tone = codes "tone"
verb_word Try = codes "try"
verb_word Strike = codes "strike"
verb_word Bound = codes "bound"
verb_word Level = codes "level"
verb_word Settle = codes "settle"

-- the command that a word names, or the fault that it names none
abbrev pub Named : List ℕ → Result Verb TextFault → Type 0
Named w (Ok v) = w ≡ verb_word v
Named w (Err f) = (f ≡ NoCommand) × ((v : Verb) → w ≢ verb_word v)

-- how many words follow the word of a command
abbrev pub arguments : Verb → ℕ
arguments Tone = 1
arguments Try = 2
arguments Strike = 2
arguments Bound = 3
arguments Level = 1
arguments Settle = 1

-- the word has the form that the command wants at its word k: cents for a tone; a ratio for the second word of a trial;
-- and for all others one to ten digits
abbrev pub HasForm : Verb → ℕ → List ℕ → Type 0
HasForm Tone k w = (p : ℤ) × CentsRead w (Some p)
HasForm Try k w = cond (k == 2) ((p : ℕ × ℕ) × PartsRead w (Some p)) (Numeral w)
HasForm Strike k w = Numeral w
HasForm Bound k w = Numeral w
HasForm Level k w = Numeral w
HasForm Settle k w = Numeral w

-- the command of a step
abbrev pub verb_of : Step → Verb
verb_of (Enter (ToneCall p)) = Tone
verb_of (Enter (TryCall t n d)) = Try
verb_of (Enter (StrikeCall t k)) = Strike
verb_of (Enter (BoundCall t u b)) = Bound
verb_of (Enter (LevelCall b)) = Level
verb_of (SettleStep a) = Settle

-- the line is not too long, and its first word names the command
pub record Begins (line : List ℕ) (v : Verb) : Type 0 where
  pub short : length line ≤ 80
  pub named : word line 0 ≡ verb_word v

-- the command has its number of words, with one space between each two and none at the ends
pub record WellSpaced (line : List ℕ) (v : Verb) : Type 0 where
  pub count : length (words line) ≡ suc (arguments v)
  pub single : AllByRecursion (λ w. w ≢ []) (words line)

-- word k of the line is the leftmost that lacks its form
pub record LeftmostAmiss (line : List ℕ) (v : Verb) (k : ℕ) : Type 0 where
  pub within : (1 ≤ k) × (k ≤ arguments v)
  pub before : (j : ℕ) → 1 ≤ j → j < k → HasForm v j (word line j)
  pub amiss : HasForm v k (word line k) → ⊥

-- the words behind the command write what the step is given
abbrev pub Says : List ℕ → Step → Type 0
Says line (Enter (ToneCall p)) = CentsRead (word line 1) (Some p)
Says line (Enter (TryCall t n d)) = NumberRead (word line 1) (Some t) × PartsRead (word line 2) (Some (n, d))
Says line (Enter (StrikeCall t k)) = NumberRead (word line 1) (Some t) × NumberRead (word line 2) (Some k)
Says line (Enter (BoundCall t u b)) = NumberRead (word line 1) (Some t) × NumberRead (word line 2) (Some u) × NumberRead (word line 3) (Some b)
Says line (Enter (LevelCall b)) = NumberRead (word line 1) (Some b)
Says line (SettleStep a) = NumberRead (word line 1) (Some a)

-- what a line is read as: the step that it says, or the first fault that holds
abbrev pub Read : List ℕ → Result Step TextFault → Type 0
Read line (Err TooLong) = 80 < length line
Read line (Err NoCommand) = (length line ≤ 80) × ((v : Verb) → word line 0 ≢ verb_word v)
Read line (Err WrongWords) = (v : Verb) × (Begins line v × (WellSpaced line v → ⊥))
Read line (Err (NoForm column)) = (v : Verb) × (Begins line v × WellSpaced line v × ((k : ℕ) × (LeftmostAmiss line v k × (column ≡ word_column line k))))
Read line (Ok step) = Begins line (verb_of step) × WellSpaced line (verb_of step) × Says line step

-- the columns are those of the first three words behind the name, in this line, each if there is such a word
pub record Placed (line : List ℕ) (columns : Columns) : Type 0 where
  pub first : columns.first ≡ column_at line 1
  pub second : columns.second ≡ column_at line 2
  pub third : columns.third ≡ column_at line 3

-- the step of a command that was read, or the fault
abbrev pub step_read : Result Command TextFault → Result Step TextFault
step_read (Ok c) = Ok c.step
step_read (Err f) = Err f
