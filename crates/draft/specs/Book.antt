-- The book of entries: what the calls to a draft mean, as plain mathematics. It is fed the calls with their arguments, one
-- after another, and nothing else.
use Rattle.std.specs.Prelude.{◌≡◌, ℕ, zero, suc, ◌≤◌, Bool, cond, ◌&&◌, ◌||◌, List, [], ◌∷◌, ◌++◌, map, length, ℤ, Some, None, Ok, Err, Option, Result, ◌==◌, nat_le, nat_lt, slice_index_or, unsigned_abs}
use Rattle.std.specs.List.{remove, AllByRecursion}
use Rattle.ratio.specs.Computed.{entry}
use Rattle.ratio.specs.declared.ratio.Ratio.{Ratio}
use Rattle.ratio.specs.declared.fault.RatioFault.{RatioFault}
use Rattle.draft.specs.declared.call.Call.{Call}
use Rattle.draft.specs.declared.call.Call.TheVariants.{Tone, Try, Strike, Bound, Level}
use Rattle.draft.specs.declared.fault.DraftFault.{DraftFault}
use Rattle.draft.specs.declared.fault.DraftFault.TheVariants.{Entry, OutOfLimits, SameTone, NoTone, NoCandidate, TonesFull, CandidatesFull}

-- a tone of the book
pub record Noted : Type 0 where
  pub pitch : ℤ
  pub candidates : List Ratio

-- the tones in the order of entry, and the bound of each two tones by their numbers
pub record Book : Type 0 where
  pub tones : List Noted
  pub bound : ℕ → ℕ → ℕ

-- the book before any call
abbrev pub new_book : Book
new_book = record { tones = []; bound = λ i j. 1073741824 }

-- the candidates of a tone
abbrev pub candidates_of : Book → ℕ → List Ratio
candidates_of b t = slice_index_or (map (λ n. n.candidates) b.tones) t []

-- there is no such tone
abbrev pub absent : Book → ℕ → Bool
absent b t = nat_le (length b.tones) t

-- the fault of the first test that holds
abbrev pub first_fault : List (Bool × DraftFault) → Option DraftFault
first_fault [] = None
first_fault (t ∷ ts) = cond t.0 (Some t.1) (first_fault ts)

-- the ratio's own fault, or else what is left to test
abbrev pub entry_fault : Result Ratio RatioFault → Option DraftFault → Option DraftFault
entry_fault (Ok r) rest = rest
entry_fault (Err f) rest = Some (Entry f)

-- why the book refuses a call, if it does: the conditions in the order in which they are tried
abbrev pub refusal : Book → Call → Option DraftFault
refusal b (Tone pitch) = first_fault ((nat_lt 12000000 (unsigned_abs pitch), OutOfLimits) ∷ ((nat_le 32 (length b.tones), TonesFull) ∷ []))
refusal b (Try t n d) = entry_fault (entry n d) (first_fault ((absent b t, NoTone) ∷ ((nat_le 8 (length (candidates_of b t)), CandidatesFull) ∷ [])))
refusal b (Strike t k) = first_fault ((absent b t, NoTone) ∷ ((nat_le (length (candidates_of b t)) k, NoCandidate) ∷ []))
refusal b (Bound t u x) = first_fault ((nat_lt 1073741824 x, OutOfLimits) ∷ (((t == u), SameTone) ∷ ((absent b t || absent b u, NoTone) ∷ [])))
refusal b (Level x) = first_fault ((nat_lt 1073741824 x, OutOfLimits) ∷ [])

-- the tones, with the candidates of tone t changed
abbrev pub changed : ℕ → (List Ratio → List Ratio) → List Noted → List Noted
changed t f [] = []
changed zero f (n ∷ ns) = record { pitch = n.pitch; candidates = f n.candidates } ∷ ns
changed (suc t) f (n ∷ ns) = n ∷ changed t f ns

-- the ratio that was entered
abbrev pub entered_ratio : Result Ratio RatioFault → List Ratio
entered_ratio (Ok r) = r ∷ []
entered_ratio (Err f) = []

-- i and j are the tones t and u, either way round
abbrev pub same_pair : ℕ → ℕ → ℕ → ℕ → Bool
same_pair t u i j = (i == t && j == u) || (i == u && j == t)

-- what an accepted call enters: a tone at the end; a candidate at the end of a tone's; one candidate fewer, those after it
-- moved down by one; the bound of one pair, good both ways; the bound of every pair
abbrev pub entered : Book → Call → Book
entered b (Tone pitch) = record { tones = b.tones ++ ((record { pitch = pitch; candidates = [] }) ∷ []); bound = b.bound }
entered b (Try t n d) = record { tones = changed t (λ cs. cs ++ entered_ratio (entry n d)) b.tones; bound = b.bound }
entered b (Strike t k) = record { tones = changed t (λ cs. remove cs k) b.tones; bound = b.bound }
entered b (Bound t u x) = record { tones = b.tones; bound = λ i j. cond (same_pair t u i j) x (b.bound i j) }
entered b (Level x) = record { tones = b.tones; bound = λ i j. x }

-- what is there if nothing is refused, and what there was if something is
abbrev pub unless_refused : Option DraftFault → Book → Book → Book
unless_refused None new old = new
unless_refused (Some f) new old = old

-- the book after a call: a refused one changes nothing
abbrev pub fed : Book → Call → Book
fed b c = unless_refused (refusal b c) (entered b c) b

-- the answer to a call: ok, or the fault
abbrev pub answer : Option DraftFault → Result (Unit {0}) DraftFault
answer None = Ok tt
answer (Some f) = Err f

-- the book after a list of calls
abbrev pub after : Book → List Call → Book
after b [] = b
after b (c ∷ cs) = after (fed b c) cs

-- what every book keeps: its limits, and that a bound is good both ways
pub record Sound (b : Book) : Type 0 where
  pub few_tones : length b.tones ≤ 32
  pub pitches : AllByRecursion (λ n. unsigned_abs n.pitch ≤ 12000000) b.tones
  pub few_candidates : AllByRecursion (λ n. length n.candidates ≤ 8) b.tones
  pub bounds : (i j : ℕ) → b.bound i j ≤ 1073741824
  pub both_ways : (i j : ℕ) → b.bound i j ≡ b.bound j i
