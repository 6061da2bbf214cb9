-- What a call did to a tone, and what is wrong with a pair. Only private functions cite this.
use Rattle.std.specs.Prelude.{◌≡◌, ℕ, ◌||◌, List, [], ◌∷◌, Err, Option, Result, ◌==◌, MatchOption, MatchResult, slice_set}
use Rattle.std.specs.List.{slice_get}
use Rattle.ratio.specs.declared.ratio.Ratio.{Ratio}
use Rattle.draft.specs.Book.{Book, absent, first_fault}
use Rattle.draft.specs.Held.{listed, entered_tones}
use Rattle.draft.specs.declared.draft.Draft.{Draft}
use Rattle.draft.specs.declared.fault.DraftFault.{DraftFault}
use Rattle.draft.specs.declared.fault.DraftFault.TheVariants.{SameTone, NoTone}
use Rattle.draft.specs.declared.tone.Tone.{Tone}

-- the tone lists these candidates now, and its pitch stayed
pub record Candidates (before after : Tone) (candidates : List Ratio) : Type 0 where
  pub pitch : after.pitch ≡ before.pitch
  pub listed : listed after ≡ candidates

-- one tone is as a change left it, and all else as it was; a refusal, also for want of the tone, leaves every field
pub record ToneChanged (gives : Tone → Result (Unit {0}) DraftFault → Tone → Type 0) (before after : Draft) (t : ℕ) (r : Result (Unit {0}) DraftFault) : Type 0 where
  pub cases : MatchOption (slice_get (entered_tones before) t)
      ((r ≡ Err NoTone) × (after ≡ before))
      (λ x. (y : Tone) × (gives x r y × MatchResult r (λ _. (entered_tones after ≡ slice_set (entered_tones before) t y) × (after.bounds ≡ before.bounds)) (λ _. after ≡ before)))

-- why two numbers name no pair of tones, if they do not
abbrev pub pair_fault : Book → ℕ → ℕ → Option DraftFault
pair_fault b t u = first_fault ((t == u, SameTone) ∷ ((absent b t || absent b u, NoTone) ∷ []))
