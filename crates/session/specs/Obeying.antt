-- What a session does with a line that was read. Only private functions cite this.
use Rattle.std.specs.Prelude.{◌≡◌, ℕ, true, List, length, is_err, Ok, Err, Option, Result}
use Rattle.draft.specs.Book.{Book}
use Rattle.draft.specs.Held.{Holds}
use Rattle.draft.specs.declared.call.Call.{Call}
use Rattle.draft.specs.declared.fault.DraftFault.{DraftFault}
use Rattle.settling.specs.Costings.{total}
use Rattle.settling.specs.Run.{stepped, Answered}
use Rattle.settling.specs.declared.settle.Settled.{Settled}
use Rattle.settling.specs.declared.step.Answer.{Answer}
use Rattle.settling.specs.declared.step.Step.{Step}
use Rattle.command.specs.Reading.{Placed}
use Rattle.command.specs.Words.{column_at}
use Rattle.command.specs.declared.command.Columns.{Columns}
use Rattle.command.specs.declared.command.Command.{Command}
use Rattle.command.specs.declared.fault.TextFault.{TextFault}
use Rattle.session.specs.Answers.{barlow, replied}
use Rattle.session.specs.Faults.{draft_word, fault_word}
use Rattle.session.specs.declared.fault.SessionFault.{SessionFault}
use Rattle.session.specs.declared.fault.SessionFault.TheVariants.{Text}
use Rattle.session.specs.declared.session.Session.{Session}

-- a step was taken by the book, and replied to as it was answered; a refusal leaves draft and sheet
pub record StepTaken (step : Step) (before after : Session) (r : Result (Option (Settled ℕ)) SessionFault) : Type 0 where
  pub by_book : (b : Book) → Holds before.draft b → (a : Answer ℕ) × (Answered barlow total 33 b step a before.sheet after.sheet × (r ≡ replied a) × Holds after.draft (stepped b step))
  pub refused : is_err r ≡ true → (after.draft ≡ before.draft) × (after.sheet ≡ before.sheet)

-- what was read is obeyed: a step is taken, and a fault of the text is handed on and leaves the session
abbrev pub Obeyed : Result Command TextFault → Session → Session → Result (Option (Settled ℕ)) SessionFault → Type 0
Obeyed (Ok command) before after r = StepTaken command.step before after r
Obeyed (Err fault) before after r = (r ≡ Err (Text fault)) × (after ≡ before)

-- the column is that of the word that a fault of the draft is told of, for any book of so many tones and any line with these
-- columns
abbrev pub ColumnOf : Columns → Call → DraftFault → ℕ → Option ℕ → Type 0
ColumnOf columns call fault tones column = (b : Book) (line : List ℕ) → tones ≡ length b.tones → Placed line columns → column ≡ column_at line (draft_word b call fault)

-- the same of a fault of a command
abbrev pub ToldAt : Command → SessionFault → ℕ → Option ℕ → Type 0
ToldAt command fault tones column = (b : Book) (line : List ℕ) → tones ≡ length b.tones → Placed line command.columns → column ≡ column_at line (fault_word b command.step fault)
