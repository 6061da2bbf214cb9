-- What is answered to a line, by the book of entries as it stands.
use Rattle.std.specs.Prelude.{◌≡◌, ℕ, List, [], ◌∷◌, ◌++◌, map, length, ℤ, pos, ◌-ℤ◌, Some, None, Ok, Err, codes, decimal, Option, Result, slice_index, slice_index_or}
use Rattle.std.specs.List.{flat_map}
use Rattle.refusal.specs.Texts.{refusal_line}
use Rattle.refusal.specs.declared.Refusal.{Refusal}
use Rattle.ratio.specs.Parts.{unison}
use Rattle.ratio.specs.Pitches.{ratio_pitch}
use Rattle.ratio.specs.Printing.{ratio_text}
use Rattle.ratio.specs.declared.ratio.Ratio.{Ratio}
use Rattle.measure.specs.Weights.{barlow_weights, weighted_distance}
use Rattle.draft.specs.Book.{Book, candidates_of}
use Rattle.settling.specs.Costings.{total}
use Rattle.settling.specs.Run.{stepped, Answered}
use Rattle.settling.specs.Settling.{below}
use Rattle.settling.specs.declared.settle.Settled.{Settled}
use Rattle.settling.specs.declared.step.Answer.{Answer}
use Rattle.settling.specs.declared.step.Answer.TheVariants.{Entered as EnteredAnswer, Settled as SettledAnswer}
use Rattle.settling.specs.declared.step.Step.{Step}
use Rattle.command.specs.Reading.{Read}
use Rattle.command.specs.Words.{word_column}
use Rattle.command.specs.declared.fault.TextFault.{TextFault}
use Rattle.session.specs.Faults.{session_refusal, fault_word}
use Rattle.session.specs.Pages.{offset_text}
use Rattle.session.specs.declared.fault.SessionFault.{SessionFault}
use Rattle.session.specs.declared.fault.SessionFault.TheVariants.{Text, Draft, Search}

-- the distance by which a session settles
abbrev pub barlow : Ratio → Ratio → ℕ
barlow = weighted_distance barlow_weights

-- the ratio that the numbers on a sheet lay at a tone
abbrev pub laid_at : Book → List ℕ → ℕ → Ratio
laid_at b sheet tone = slice_index_or (candidates_of b tone) (slice_index sheet tone) unison

-- the pitch of a tone
abbrev pub pitch_of : Book → ℕ → ℤ
pitch_of b tone = slice_index_or (map (λ n. n.pitch) b.tones) tone (pos 0)

-- the line of a ratio that is laid at a pitch: the ratio, and how far it lies from the pitch
abbrev pub ratio_line : Ratio → ℤ → List ℕ
ratio_line r pitch = ratio_text r ++ (codes " " ++ (offset_text (ratio_pitch r -ℤ pitch) ++ (10 ∷ [])))

-- the line of a tone: its ratio, and how far that lies from the tone's own pitch
abbrev pub tone_line : Book → List ℕ → ℕ → List ℕ
tone_line b sheet tone = ratio_line (laid_at b sheet tone) (pitch_of b tone)

-- the first line of a scale: `scale`, cost and trials
abbrev pub heading : Settled ℕ → List ℕ
heading s = codes "scale " ++ (decimal s.cost ++ (codes " " ++ (decimal s.trials ++ (10 ∷ []))))

-- the answer that tells a scale: its first line, and a line for each tone
abbrev pub scale_text : Book → List ℕ → Settled ℕ → List ℕ
scale_text b sheet s = heading s ++ flat_map (tone_line b sheet) (below (length b.tones))

-- the line of a refusal
abbrev pub refusal_text : Refusal → List ℕ
refusal_text r = refusal_line r ++ (10 ∷ [])

-- the answer to a step as a session gives it: a scale, or nothing but that something is entered
abbrev pub replied : Answer ℕ → Result (Option (Settled ℕ)) SessionFault
replied (EnteredAnswer (Ok u)) = Ok None
replied (EnteredAnswer (Err fault)) = Err (Draft fault)
replied (SettledAnswer (Ok settled)) = Ok (Some settled)
replied (SettledAnswer (Err fault)) = Err (Search fault)

-- the text of a reply to a line that says a step: by the book before the step, and the sheet after it
abbrev pub reply_text : Book → List ℕ → Step → List ℕ → Result (Option (Settled ℕ)) SessionFault → List ℕ
reply_text b line step sheet (Ok None) = codes "ok" ++ (10 ∷ [])
reply_text b line step sheet (Ok (Some settled)) = scale_text b sheet settled
reply_text b line step sheet (Err fault) = refusal_text (session_refusal fault (word_column line (fault_word b step fault)))

-- what a line that says this step, or has this fault, does: its answer's text, and the book and the sheet from before it to
-- after it; a fault of the text changes neither, and a step is answered by the book
abbrev pub Done : List ℕ → Result Step TextFault → List ℕ → Book → Book → List ℕ → List ℕ → Type 0
Done line (Err fault) text b b' sheet sheet' = (text ≡ refusal_text (session_refusal (Text fault) 0)) × (b' ≡ b) × (sheet' ≡ sheet)
Done line (Ok step) text b b' sheet sheet' = (a : Answer ℕ) × (Answered barlow total 33 b step a sheet sheet' × (text ≡ reply_text b line step sheet' (replied a)) × (b' ≡ stepped b step))

-- what a line does: it is read, and what it says is done
pub record LineDone (line text : List ℕ) (b b' : Book) (sheet sheet' : List ℕ) : Type 0 where
  pub read : Result Step TextFault
  pub reads : Read line read
  pub done : Done line read text b b' sheet sheet'
