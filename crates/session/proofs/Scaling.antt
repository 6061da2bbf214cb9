-- What is read of a book for the line of a tone, and how the lines follow one another. Assumes nothing.
use Rattle.std.proofs.Common.{◌≡◌, ℕ, zero, suc, ◌+◌, ◌^◌, ◌<◌, ◌≤◌, List, [], ◌∷◌, ◌++◌, map, length, get_or, ℤ, pos, ◌-ℤ◌, nat_abs, codes, decimal, sym, ap, ◌∙◌, append_assoc, arith, length-append}
use Rattle.std.specs.List.{flat_map}
use Rattle.draft.specs.Book.{Book, candidates_of}
use Rattle.draft.proofs.Holding.{held_count, held_book}
use Rattle.draft.specs.Held.{book_of, listed, noted}
use Rattle.draft.specs.declared.tone.Tone.{Tone}
use Rattle.draft.specs.declared.draft.Draft.{Draft}
use Rattle.settling.proofs.Listed.{below_more, gathered_push}
use Rattle.settling.specs.Settling.{below}
use Rattle.ratio.specs.Pitches.{ratio_pitch}
use Rattle.ratio.specs.Printing.{ratio_text}
use Rattle.ratio.specs.declared.ratio.Ratio.{Ratio}
use Rattle.settling.specs.declared.settle.Settled.{Settled}
use Rattle.std.proofs.lemmas.Fmt.{length-decimal-le}
use Rattle.session.proofs.Pages.{ratio_short, offset_short}
use Rattle.session.specs.Answers.{pitch_of, ratio_line, heading}
use Rattle.session.specs.Pages.{offset_text}

-- a listed tone by its number, as the book notes it
noted_pitch : (ts : List Tone) (k : ℕ) → k < length ts → (x : Tone) → x ≡ get_or ts k x → x.pitch ≡ get_or (map (λ n. n.pitch) (map noted ts)) k (pos 0)
noted_pitch [] k h x is = absurd (omega arith)
noted_pitch (y ∷ ts) zero h x is = ap (λ w. w.pitch) is
noted_pitch (y ∷ ts) (suc k) h x is = noted_pitch ts k (omega arith) x is

pub tone_pitch : (b : Book) (ts : List Tone) → map noted ts ≡ b.tones → (k : ℕ) → k < length ts → (x : Tone) → x ≡ get_or ts k x → x.pitch ≡ pitch_of b k
tone_pitch b ts held k h x is = noted_pitch ts k h x is ∙ ap (λ ns. get_or (map (λ n. n.pitch) ns) k (pos 0)) held

noted_listed : (ts : List Tone) (k : ℕ) → k < length ts → (x : Tone) → x ≡ get_or ts k x → listed x ≡ get_or (map (λ n. n.candidates) (map noted ts)) k []
noted_listed [] k h x is = absurd (omega arith)
noted_listed (y ∷ ts) zero h x is = ap listed is
noted_listed (y ∷ ts) (suc k) h x is = noted_listed ts k (omega arith) x is

pub tone_listed : (b : Book) (ts : List Tone) → map noted ts ≡ b.tones → (k : ℕ) → k < length ts → (x : Tone) → x ≡ get_or ts k x → listed x ≡ candidates_of b k
tone_listed b ts held k h x is = noted_listed ts k h x is ∙ ap (λ ns. get_or (map (λ n. n.candidates) ns) k []) held

-- a number of 64 bits takes at most 20 bytes
pub number_short : (n : ℕ) → n < 2 ^ 64 → length (decimal n) ≤ 20
number_short n small = length-decimal-le 20 n (omega arith) (omega arith) small

-- the pieces of a scale's first line
pub heading_pieces : (s : Settled ℕ) → (((codes "scale " ++ decimal s.cost) ++ codes " ") ++ decimal s.trials) ++ (10 ∷ []) ≡ heading s
heading_pieces s = simp append_assoc

-- the pieces of a tone's line
pub line_pieces : (r : Ratio) (pitch above : ℤ) → above ≡ ratio_pitch r -ℤ pitch → ((ratio_text r ++ codes " ") ++ offset_text above) ++ (10 ∷ []) ≡ ratio_line r pitch
line_pieces r pitch above is =
    let text : ((ratio_text r ++ codes " ") ++ offset_text above) ++ (10 ∷ []) ≡ ratio_text r ++ (codes " " ++ (offset_text above ++ (10 ∷ []))) = simp append_assoc in
    text ∙ ap (λ o. ratio_text r ++ (codes " " ++ (offset_text o ++ (10 ∷ [])))) is

-- a draft has at most 32 tones
pub few_held : (d : Draft) → length (book_of d).tones ≤ 32
few_held d = omega (arith, held_count d (book_of d) (held_book d), d.tones.few)

-- one more of the lines
pub lines_more : (f : ℕ → List ℕ) (n : ℕ) → flat_map f (below n) ++ f n ≡ flat_map f (below (n + 1))
lines_more f n = sym (ap (flat_map f) (below_more n) ∙ gathered_push f (below n) n)

-- the line of a tone takes at most 37 bytes
pub line_short : (r : Ratio) (pitch : ℤ) → nat_abs (ratio_pitch r -ℤ pitch) < 2 ^ 32 → length (ratio_line r pitch) ≤ 37
line_short r pitch small =
    let above : ℤ = ratio_pitch r -ℤ pitch in
    let tail = length-append (offset_text above) (10 ∷ []) in
    omega (arith, length-append (ratio_text r) (codes " " ++ (offset_text above ++ (10 ∷ []))), tail, ratio_short r, offset_short above small)

-- the first line of a scale takes at most 48 bytes
pub heading_short : (s : Settled ℕ) → s.cost < 2 ^ 64 → s.trials < 2 ^ 64 → length (heading s) ≤ 48
heading_short s cost_fits trials_fits =
    let trials = length-append (decimal s.trials) (10 ∷ []) in
    let cost = length-append (decimal s.cost) (codes " " ++ (decimal s.trials ++ (10 ∷ []))) in
    omega (arith, trials, cost, number_short s.cost cost_fits, number_short s.trials trials_fits)
