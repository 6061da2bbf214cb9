-- A session from its start: lines, and the answers to them.
use Rattle.std.specs.Prelude.{◌≡◌, ℕ, ◌<◌, ◌≤◌, List, [], ◌∷◌, ◌++◌, length, take, drop, replicate, Ok, Err, codes, Result}
use Rattle.refusal.specs.declared.Refusal.{Refusal}
use Rattle.draft.specs.Book.{Book, new_book}
use Rattle.draft.specs.Held.{Holds}
use Rattle.session.specs.Answers.{LineDone}
use Rattle.session.specs.Faults.{session_refusal}
use Rattle.session.specs.declared.fault.SessionFault.TheVariants.{ShortBuffer}
use Rattle.session.specs.declared.session.Session.{Session}

-- lines done one after another, each with one answer, from a book and a sheet to a book and a sheet
abbrev pub AllDone : List (List ℕ) → List (List ℕ) → Book → Book → List ℕ → List ℕ → Type 0
AllDone [] [] b b' sheet sheet' = (b' ≡ b) × (sheet' ≡ sheet)
AllDone [] (text ∷ texts) b b' sheet sheet' = ⊥
AllDone (line ∷ lines) [] b b' sheet sheet' = ⊥
AllDone (line ∷ lines) (text ∷ texts) b b' sheet sheet' = (m : Book) × ((s : List ℕ) × (LineDone line text b m sheet s × AllDone lines texts m b' s sheet'))

-- the session has heard these lines since it began, from the new book and a sheet of zeros, and has given these answers
pub record Followed (session : Session) (lines answers : List (List ℕ)) : Type 0 where
  pub book : Book
  pub done : AllDone lines answers new_book book (replicate 32 0) session.sheet
  pub holds : Holds session.draft book

-- one line more was heard: whatever the session had heard before, it has now heard this line too, and the first n bytes of
-- the buffer answer it; the bytes behind them stay; and if the answer is a refusal, so do the draft and the sheet
pub record HeardOne (before after : Session) (line buffer filled : List ℕ) (n : ℕ) : Type 0 where
  pub followed : (lines answers : List (List ℕ)) → Followed before lines answers → Followed after (lines ++ (line ∷ [])) (answers ++ (take n filled ∷ []))
  pub within : n ≤ 1280
  pub rest : drop n filled ≡ drop n buffer
  pub refused : take 3 filled ≡ codes "no " → (after.draft ≡ before.draft) × (after.sheet ≡ before.sheet)

-- nothing was heard for want of room: nothing is written, and the session is as it was
pub record NoRoom (before after : Session) (buffer filled : List ℕ) (refusal : Refusal) : Type 0 where
  pub short : length buffer < 1280
  pub told : refusal ≡ session_refusal ShortBuffer 0
  pub buffer_stays : filled ≡ buffer
  pub session_stays : after ≡ before

-- what the call for one line did
abbrev pub HeardLine : Session → Session → List ℕ → List ℕ → List ℕ → Result ℕ Refusal → Type 0
HeardLine before after line buffer filled (Ok n) = (1280 ≤ length buffer) × HeardOne before after line buffer filled n
HeardLine before after line buffer filled (Err refusal) = NoRoom before after buffer filled refusal
