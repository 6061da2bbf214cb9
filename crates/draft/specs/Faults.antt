-- The layer and number of each fault of a draft.
use Rattle.std.specs.Prelude.{ℕ}
use Rattle.refusal.specs.declared.Layer.TheVariants.{Draft}
use Rattle.refusal.specs.declared.Refusal.{Refusal}
use Rattle.ratio.specs.Faults.{ratio_refusal}
use Rattle.draft.specs.declared.fault.DraftFault.{DraftFault}
use Rattle.draft.specs.declared.fault.DraftFault.TheVariants.{Entry, OutOfLimits, SameTone, NoTone, NoCandidate, TonesFull, CandidatesFull}

-- the fault as it is told of a word at a column; a ratio's fault is told as the ratio tells it
abbrev pub draft_refusal : DraftFault → ℕ → Refusal
draft_refusal (Entry fault) column = ratio_refusal fault column
draft_refusal OutOfLimits column = record { layer = Draft; number = 9; column = column }
draft_refusal SameTone column = record { layer = Draft; number = 10; column = column }
draft_refusal NoTone column = record { layer = Draft; number = 20; column = column }
draft_refusal NoCandidate column = record { layer = Draft; number = 21; column = column }
draft_refusal TonesFull column = record { layer = Draft; number = 22; column = column }
draft_refusal CandidatesFull column = record { layer = Draft; number = 23; column = column }
