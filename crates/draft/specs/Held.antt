-- When a draft holds a book.
use Rattle.std.specs.Prelude.{◌≡◌, ℕ, ◌+◌, ◌-◌, ◌*◌, ◌/◌, ◌<◌, min, max, true, List, map, is_err, Result, ◌≢◌, slice_index}
use Rattle.places.specs.Listed as places
use Rattle.ratio.specs.declared.ratio.Ratio.{Ratio}
use Rattle.draft.specs.Book.{Noted, Book, refusal, fed, answer}
use Rattle.draft.specs.declared.call.Call.{Call}
use Rattle.draft.specs.declared.fault.DraftFault.{DraftFault}
use Rattle.draft.specs.declared.draft.Draft.{Draft}
use Rattle.draft.specs.declared.tone.Tone.{Tone}

-- the candidates that a tone lists
abbrev pub listed : Tone → List Ratio
listed t = places.listed t.candidates

-- a tone of the draft as the book notes it
abbrev pub noted : Tone → Noted
noted t = record { pitch = t.pitch; candidates = listed t }

-- the tones that are entered
abbrev pub entered_tones : Draft → List Tone
entered_tones d = places.listed d.tones

-- where the bound of a pair stands, either way round: with the larger number j and the smaller i, at j(j - 1)/2 + i
abbrev pub pair_place : ℕ → ℕ → ℕ
pair_place i j = max i j * (max i j - 1) / 2 + min i j

-- the draft has the tones of the book, and at the place of each pair of the 32 places the bound of the book
pub record Holds (d : Draft) (b : Book) : Type 0 where
  pub tones : map noted (entered_tones d) ≡ b.tones
  pub bounds : (i j : ℕ) → i < 32 → j < 32 → (i ≢ j) → slice_index d.bounds (pair_place i j) ≡ b.bound i j

-- the book that a draft holds by its own tables
abbrev pub book_of : Draft → Book
book_of d = record { tones = map noted (entered_tones d); bound = λ i j. slice_index d.bounds (pair_place i j) }

-- a call to a draft went by the book: for every book that the draft held, the answer is the book's and it now holds the
-- book that was fed the call; a refusal leaves every field as it was
pub record ByBook (before after : Draft) (call : Call) (r : Result (Unit {0}) DraftFault) : Type 0 where
  pub answers : (b : Book) → Holds before b → r ≡ answer (refusal b call)
  pub holds : (b : Book) → Holds before b → Holds after (fed b call)
  pub unchanged : is_err r ≡ true → after ≡ before
