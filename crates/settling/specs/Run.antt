-- The promise of a whole run: any list of steps, put one by one to a new draft, by a measure and a costing.
use Rattle.std.specs.Prelude.{◌≡◌, ℕ, min, List, [], ◌∷◌, length, take, drop}
use Rattle.draft.specs.Book.{Book, new_book, refusal, fed, answer}
use Rattle.draft.specs.Held.{Holds}
use Rattle.draft.specs.declared.draft.Draft.{Draft}
use Rattle.ratio.specs.declared.ratio.Ratio.{Ratio}
use Rattle.settling.specs.Promise.{Settling}
use Rattle.settling.specs.Settling.{Costing}
use Rattle.settling.specs.declared.step.Answer.{Answer}
use Rattle.settling.specs.declared.step.Answer.TheVariants.{Entered, Settled}
use Rattle.settling.specs.declared.step.Entry.{Entry}
use Rattle.settling.specs.declared.step.Step.{Step}
use Rattle.settling.specs.declared.step.Step.TheVariants.{Enter, Settle}

-- the book after a step: a settling enters nothing
abbrev pub stepped : Book → Step → Book
stepped b (Enter call) = fed b call
stepped b (Settle allowance) = b

-- the book after a list of steps
abbrev pub after : Book → List Step → Book
after b [] = b
after b (s ∷ ss) = after (stepped b s) ss

-- with a stack of so many places
module _ {V : Type 0} (distance : Ratio → Ratio → ℕ) (c : Costing V) (places : ℕ) where
  -- the answer to a step by the book as it stands, and the sheet before and after: an entry is answered as the book answers
  -- it, and leaves the sheet; a settling keeps its promise
  abbrev pub Answered : Book → Step → Answer V → List ℕ → List ℕ → Type 0
  Answered b (Enter call) (Entered told) before after = (told ≡ answer (refusal b call)) × (after ≡ before)
  Answered b (Enter call) (Settled told) before after = ⊥
  Answered b (Settle allowance) (Entered told) before after = ⊥
  Answered b (Settle allowance) (Settled told) before after = Settling distance c b allowance places told before after

  -- a step that was put to a draft: for every book that the draft held, the answer is by that book, and the draft holds
  -- the book after the step
  abbrev pub Stepped : Step → Draft → Draft → Answer V → List ℕ → List ℕ → Type 0
  Stepped s d d' a before after = (b : Book) → Holds d b → Answered b s a before after × Holds d' (stepped b s)

  -- a run from a book: each step has one entry, which answers it by the book as it stands then; the sheet goes from entry
  -- to entry
  abbrev pub Run : Book → List Step → List (Entry V) → List ℕ → List ℕ → Type 0
  Run b [] [] before last = last ≡ before
  Run b [] (e ∷ es) before last = ⊥
  Run b (s ∷ ss) [] before last = ⊥
  Run b (s ∷ ss) (e ∷ es) before last = Answered b s e.answer before e.sheet × Run (stepped b s) ss es e.sheet last

  -- as many steps as the record has places are a run from the new book; places beyond them stay; and the draft holds the
  -- book after those steps
  pub record Replayed (steps : List Step) (before written : List (Entry V)) (sheet last : List ℕ) (d : Draft) : Type 0 where
    pub run : Run new_book (take (min (length steps) (length before)) steps) (take (min (length steps) (length before)) written) sheet last
    pub stayed : drop (min (length steps) (length before)) written ≡ drop (min (length steps) (length before)) before
    pub holds : Holds d (after new_book (take (min (length steps) (length before)) steps))
