-- The checked figures: statements about the definitions, in one list.
use Rattle.std.specs.Prelude.{◌≡◌, ℕ, List, [], ◌∷◌, ◌++◌, length, drop, pos, Ok, Err, Result}
use Rattle.draft.specs.Book.{new_book, after}
use Rattle.draft.specs.declared.call.Call.{Call}
use Rattle.draft.specs.declared.call.Call.TheVariants.{Tone, Try, Level}
use Rattle.settling.specs.Costings.{total, worst, worst_then_total}
use Rattle.settling.specs.Promise.{Settling}
use Rattle.settling.specs.Settling.{Costing}
use Rattle.settling.specs.declared.fault.SearchFault.{SearchFault}
use Rattle.settling.specs.declared.fault.SearchFault.TheVariants.{Spent, NoScale}
use Rattle.settling.specs.declared.settle.Settled.{Settled}
use Rattle.ratio.specs.declared.ratio.Ratio.{Ratio}
use Rattle.ratio.specs.Entry.{Entered}
use Rattle.measure.specs.Apart.{pitch_gap, octave_blind}
use Rattle.measure.specs.Weights.{barlow_weights, euler_weights, weighted_distance}

-- by the measure, the distance from m/n to p/q is `amount`
pub record Distance (measure : Ratio → Ratio → ℕ) (m n p q amount : ℕ) : Type 0 where
  pub from : Ratio
  pub to : Ratio
  pub from_entered : Entered m n (Ok from)
  pub to_entered : Entered p q (Ok to)
  pub is : measure from to ≡ amount

-- the book of these calls, settled by the distance and the costing under the allowance, gives this answer, whatever the
-- sheet holds; its first places then hold this choice, and the others stay
abbrev pub Settles : {V : Type 0} → (Ratio → Ratio → ℕ) → Costing V → List Call → ℕ → Result (Settled V) SearchFault → List ℕ → Type 0
Settles distance c calls allowance answer choice = (sheet : List ℕ) → Settling distance c (after new_book calls) allowance 33 answer sheet (choice ++ drop (length choice) sheet)

-- three tones at 0, 400 and 700 cents with their candidates, and one bound for all pairs
abbrev pub triad : ℕ → List Call
triad level =
    Level level
    ∷ (Tone (pos 0)
    ∷ (Tone (pos 400000)
    ∷ (Tone (pos 700000)
    ∷ (Try 0 1 1
    ∷ (Try 1 5 4
    ∷ (Try 1 81 64
    ∷ (Try 2 3 2
    ∷ (Try 2 40 27
    ∷ []))))))))

-- one tone at pitch 0 with the candidates 81/80 and 1/1
abbrev pub lone : List Call
lone = Tone (pos 0) ∷ (Try 0 81 80 ∷ (Try 0 1 1 ∷ []))

-- one tone at pitch 0 without candidates
abbrev pub bare : List Call
bare = Tone (pos 0) ∷ []

abbrev pub barlow : Ratio → Ratio → ℕ
barlow = weighted_distance barlow_weights

-- every statement of a list holds
abbrev pub AllHold : List (Type 0) → Type 0
AllHold [] = Unit {0}
AllHold (row ∷ rows) = row × AllHold rows

-- 1. Barlow, 1/1 to 3/2: 110,110
-- 2. Barlow, 3/2 to 5/4, which is 6/5 after cancelling: 302,302
-- 3. Euler, 1/1 to 45/32: 13
-- 4. blind to octaves over Barlow, 1/1 to 2/1: 0
-- 5. pitch gap, 1/1 to 45/32: 590,224
-- By Barlow, the triad with its pairs bound by 600,600 is
-- 6. by total 664,664 in 7 trials
-- 7. by worst 302,302 in 5 trials
-- 8. by worst-then-total 302,302 and 664,664 in 5 trials
-- 9. bound by 302,302 instead, by total 664,664 in 5 trials
-- 10. bound by 302,301, none at an allowance of 5 trials, and spent at 4
-- 11. one tone with 81/80 and 1/1 settles to 81/80 at no cost in 2 trials
-- 12. one tone without candidates at an allowance of 0 is none
abbrev pub figures : List (Type 0)
figures =
    Distance barlow 1 1 3 2 110110
    ∷ (Distance barlow 3 2 5 4 302302
    ∷ (Distance (weighted_distance euler_weights) 1 1 45 32 13
    ∷ (Distance (octave_blind barlow) 1 1 2 1 0
    ∷ (Distance pitch_gap 1 1 45 32 590224
    ∷ (Settles barlow total (triad 600600) 1000000000 (Ok (record { cost = 664664; trials = 7 })) (0 ∷ (0 ∷ (0 ∷ [])))
    ∷ (Settles barlow worst (triad 600600) 1000000000 (Ok (record { cost = 302302; trials = 5 })) (0 ∷ (0 ∷ (0 ∷ [])))
    ∷ (Settles barlow worst_then_total (triad 600600) 1000000000 (Ok (record { cost = (302302, 664664); trials = 5 })) (0 ∷ (0 ∷ (0 ∷ [])))
    ∷ (Settles barlow total (triad 302302) 1000000000 (Ok (record { cost = 664664; trials = 5 })) (0 ∷ (0 ∷ (0 ∷ [])))
    ∷ ((Settles barlow total (triad 302301) 5 (Err (NoScale 5)) [] × Settles barlow total (triad 302301) 4 (Err Spent) [])
    ∷ (Settles barlow total lone 1000000000 (Ok (record { cost = 0; trials = 2 })) (0 ∷ [])
    ∷ (Settles barlow total bare 0 (Err (NoScale 0)) []
    ∷ [])))))))))))
