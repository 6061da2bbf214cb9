-- The steps of a run that enters a triad and settles it.
use Rattle.std.specs.Prelude.{ℕ, List, [], ◌∷◌, pos}
use Rattle.draft.specs.declared.call.Call.TheVariants.{Tone, Try, Level}
use Rattle.settling.specs.declared.step.Step.{Step}
use Rattle.settling.specs.declared.step.Step.TheVariants.{Enter, Settle}

-- one bound for all pairs; tones at 0, 400 and 700 cents; 1/1, then 5/4 or 81/64, then 3/2 or 40/27; and the settling
abbrev pub triad_steps : ℕ → ℕ → List Step
triad_steps bound allowance =
    Enter (Level bound)
    ∷ (Enter (Tone (pos 0))
    ∷ (Enter (Tone (pos 400000))
    ∷ (Enter (Tone (pos 700000))
    ∷ (Enter (Try 0 1 1)
    ∷ (Enter (Try 1 5 4)
    ∷ (Enter (Try 1 81 64)
    ∷ (Enter (Try 2 3 2)
    ∷ (Enter (Try 2 40 27)
    ∷ (Settle allowance
    ∷ [])))))))))
