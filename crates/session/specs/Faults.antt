-- The layer, number and column of each fault of a session, and the word of the line that it is told of.
use Rattle.std.specs.Prelude.{ℕ, cond}
use Rattle.refusal.specs.declared.Layer.TheVariants.{Text as TextLayer}
use Rattle.refusal.specs.declared.Refusal.{Refusal}
use Rattle.draft.specs.Book.{Book, absent}
use Rattle.draft.specs.Faults.{draft_refusal}
use Rattle.draft.specs.declared.call.Call.{Call}
use Rattle.draft.specs.declared.call.Call.TheVariants.{Tone, Try, Strike, Bound, Level}
use Rattle.draft.specs.declared.fault.DraftFault.{DraftFault}
use Rattle.draft.specs.declared.fault.DraftFault.TheVariants.{Entry, OutOfLimits, SameTone, NoTone, NoCandidate, TonesFull, CandidatesFull}
use Rattle.settling.specs.Faults.{search_refusal}
use Rattle.settling.specs.declared.fault.SearchFault.{SearchFault}
use Rattle.settling.specs.declared.fault.SearchFault.TheVariants.{OutOfLimits as AllowanceOut, ShortStack, NoTone as NoToneAtAll, Spent, NoScale}
use Rattle.settling.specs.declared.step.Step.{Step}
use Rattle.settling.specs.declared.step.Step.TheVariants.{Enter, Settle}
use Rattle.command.specs.Faults.{text_refusal}
use Rattle.session.specs.declared.fault.SessionFault.{SessionFault}
use Rattle.session.specs.declared.fault.SessionFault.TheVariants.{ShortBuffer, Text, Draft, Search}

-- the fault as it is told; one of the draft or the search is told at the given column
abbrev pub session_refusal : SessionFault → ℕ → Refusal
session_refusal ShortBuffer column = record { layer = TextLayer; number = 1; column = 0 }
session_refusal (Text fault) column = text_refusal fault
session_refusal (Draft fault) column = draft_refusal fault column
session_refusal (Search fault) column = search_refusal fault column

-- the word of the pitch or the bound that is outside its limits
abbrev pub amount_word : Call → ℕ
amount_word (Tone pitch) = 1
amount_word (Try t n d) = 1
amount_word (Strike t k) = 1
amount_word (Bound t u x) = 3
amount_word (Level x) = 1

-- the leftmost word that names a tone which is not there
abbrev pub absent_word : Book → Call → ℕ
absent_word b (Tone pitch) = 1
absent_word b (Try t n d) = 1
absent_word b (Strike t k) = 1
absent_word b (Bound t u x) = cond (absent b t) 1 2
absent_word b (Level x) = 1

-- the word that a fault of the draft is told of, where word 0 is the name of the command: the ratio, the amount, the second
-- tone, the leftmost tone that is not there, the candidate, the line as a whole, the tone
abbrev pub draft_word : Book → Call → DraftFault → ℕ
draft_word b call (Entry fault) = 2
draft_word b call OutOfLimits = amount_word call
draft_word b call SameTone = 2
draft_word b call NoTone = absent_word b call
draft_word b call NoCandidate = 2
draft_word b call TonesFull = 0
draft_word b call CandidatesFull = 1

-- the word that a fault of the search is told of: the allowance, or the line as a whole
abbrev pub search_word : SearchFault → ℕ
search_word AllowanceOut = 1
search_word ShortStack = 0
search_word NoToneAtAll = 0
search_word Spent = 0
search_word (NoScale trials) = 0

-- the word that a fault of a step is told of
abbrev pub fault_word : Book → Step → SessionFault → ℕ
fault_word b step ShortBuffer = 0
fault_word b step (Text fault) = 0
fault_word b (Enter call) (Draft fault) = draft_word b call fault
fault_word b (Settle allowance) (Draft fault) = 0
fault_word b step (Search fault) = search_word fault
