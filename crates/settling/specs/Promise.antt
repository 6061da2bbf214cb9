-- What a settling promises.
use Rattle.std.specs.Prelude.{◌≡◌, ℕ, ◌<◌, ◌≤◌, true, cond, List, ◌++◌, length, drop, Some, None, Ok, Err, Option, Result, ◌==◌, ◌≢◌, nat_lt}
use Rattle.draft.specs.Book.{Book}
use Rattle.ratio.specs.Parts.{unison}
use Rattle.ratio.specs.declared.ratio.Ratio.{Ratio}
use Rattle.settling.specs.Posed.{rows, problem}
use Rattle.settling.specs.Settling.{Costing, Choice, keeps, cost, trials, Best}
use Rattle.settling.specs.declared.fault.SearchFault.{SearchFault}
use Rattle.settling.specs.declared.fault.SearchFault.TheVariants.{OutOfLimits, ShortStack, NoTone, Spent, NoScale}
use Rattle.settling.specs.declared.settle.Settled.{Settled}

-- why a settling is not well put: an allowance over 1,000,000,000, then a stack of fewer than 33 places, then no tone
abbrev pub ill_put : Book → ℕ → ℕ → Option SearchFault
ill_put b places allowance = cond (nat_lt 1000000000 allowance) (Some OutOfLimits) (cond (nat_lt places 33) (Some ShortStack) (cond (length b.tones == 0) (Some NoTone) None))

-- a settling of the book by a distance and a costing, under an allowance of trials
module _ {V : Type 0} (distance : Ratio → Ratio → ℕ) (c : Costing V) (b : Book) (allowance : ℕ) where
  -- the trials of the book
  abbrev pub book_trials : ℕ
  book_trials = trials (problem distance b) unison c

  -- every choice of one candidate a tone breaks some bound
  abbrev pub NoChoice : Type 0
  NoChoice = (s : List ℕ) → Choice (rows b) s → keeps (problem distance b) unison s ≢ true

  -- the trials are allowed and reported, the sheet's first places hold the best choice, and its cost is reported
  pub record BestOnSheet (settled : Settled V) (before after : List ℕ) : Type 0 where
    pub allowed : book_trials ≤ allowance
    pub counted : settled.trials ≡ book_trials
    pub choice : List ℕ
    pub best : Best (problem distance b) unison c choice
    pub costs : settled.cost ≡ cost (problem distance b) unison c choice
    pub written : after ≡ choice ++ drop (length choice) before

  -- what a well put settling answers, and what the sheet holds then: spent if the trials exceed the allowance, else none if
  -- no choice keeps the bounds, else the best choice; without a scale the sheet stays
  abbrev pub WellSettled : Result (Settled V) SearchFault → List ℕ → List ℕ → Type 0
  WellSettled (Ok settled) before after = BestOnSheet settled before after
  WellSettled (Err Spent) before after = (allowance < book_trials) × (after ≡ before)
  WellSettled (Err (NoScale tried)) before after = (book_trials ≤ allowance) × (tried ≡ book_trials) × NoChoice × (after ≡ before)
  WellSettled (Err OutOfLimits) before after = ⊥
  WellSettled (Err ShortStack) before after = ⊥
  WellSettled (Err NoTone) before after = ⊥

  -- the answer to a settling: the fault by which it is not well put, with the sheet as it was; or that of a well put one
  abbrev pub AnsweredBy : Option SearchFault → Result (Settled V) SearchFault → List ℕ → List ℕ → Type 0
  AnsweredBy (Some fault) r before after = (r ≡ Err fault) × (after ≡ before)
  AnsweredBy None r before after = WellSettled r before after

  -- a settling with a stack of so many places, from one sheet to the next
  abbrev pub Settling : ℕ → Result (Settled V) SearchFault → List ℕ → List ℕ → Type 0
  Settling places r before after = AnsweredBy (ill_put b places allowance) r before after
