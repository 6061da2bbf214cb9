-- What is answered to a line, and to the lines of an input.
use Rattle.std.specs.Prelude.{◌≡◌, ℕ, List, [], ◌∷◌, ◌++◌, Some, None, Ok, Err, Option, Result}
use Rattle.refusal.specs.declared.Refusal.{Refusal}
use Rattle.refusal.specs.Texts.{refusal_line}
use Rattle.ratio.specs.declared.ratio.Ratio.{Ratio}
use Rattle.interval.specs.declared.answer.Answer.{Answer}
use Rattle.interval.specs.declared.interval.Interval.{Interval}
use Rattle.interval.specs.declared.fault.LineFault.{LineFault}
use Rattle.lines.specs.Hearing.{Heard}
use Rattle.lines.specs.Splitting.{ended, open_line}
use Rattle.interval.specs.declared.table.Table.{Table}
use Rattle.interval.specs.Faults.{line_refusal}
use Rattle.interval.specs.Naming.{Named}
use Rattle.interval.specs.Texts.{interval_text}

-- the text of what a ratio is worth, or of the refusal
abbrev pub result_text : Result Interval Refusal → List ℕ
result_text (Ok interval) = interval_text interval.0
result_text (Err refusal) = refusal_line refusal

-- the text of an answer
abbrev pub answer_text : Answer → List ℕ
answer_text answer = result_text answer.0

-- what is told where a line names a ratio, or has a fault: what the ratio is worth, or the refusal
abbrev pub told : Result Ratio LineFault → List ℕ
told (Ok ratio) = interval_text ratio
told (Err fault) = refusal_line (line_refusal fault)

-- `text` is the answer to the line
pub record Answered (line text : List ℕ) : Type 0 where
  pub named : Result Ratio LineFault
  pub names : Named line named
  pub is : text ≡ told named

-- `text` is the answers to the lines in their order, each ended by byte 10
abbrev pub AllAnswered : List (List ℕ) → List ℕ → Type 0
AllAnswered [] text = text ≡ []
AllAnswered (line ∷ lines) text = (first : List ℕ) × ((rest : List ℕ) × Answered line first × AllAnswered lines rest × (text ≡ first ++ (10 ∷ rest)))

-- what is written of an answer that may be there: its text and byte 10
abbrev pub spoken : Option Answer → List ℕ
spoken None = []
spoken (Some answer) = answer_text answer ++ (10 ∷ [])

-- the table has heard the bytes `past` since it began, and `said` answers the lines that byte 10 has ended there
pub record Followed (table : Table) (past said : List ℕ) : Type 0 where
  pub heard : Heard table.line (open_line past)
  pub answered : AllAnswered (ended past) said
