-- What a draft holds, tone by tone. Assumes nothing.
use Rattle.std.proofs.Common.{◌≡◌, ℕ, zero, suc, ◌<◌, ◌≤◌, List, [], ◌∷◌, map, length, get_or, set, Some, None, sym, refl, ap, ◌∙◌, arith, length-take-le}
use lib.ListN.{length-map}
use mathlib.Core.HLevel.{is_prop→PathP}
use native.Mathlib.Nat.{ℕ_set}
use Rattle.std.specs.Option.{option_map}
use Rattle.std.specs.List.{slice_get}
use Rattle.std.proofs.lemmas.Option.{slice_get-map, slice_get_within, slice_get_cases}
use Rattle.ratio.specs.declared.ratio.Ratio.{Ratio}
use Rattle.draft.specs.Book.{Book, candidates_of, changed}
use Rattle.draft.specs.Held.{listed, noted, entered_tones, pair_place, Holds, book_of}
use Rattle.draft.specs.Reading.{candidates_in}
use Rattle.draft.specs.declared.draft.Draft.{Draft}
use Rattle.draft.specs.declared.tone.Tone.{Tone}

pub entered_count : (d : Draft) → length (entered_tones d) ≡ d.tones.count
entered_count d = length-take-le d.tones.count d.tones.table (omega (arith, d.tones.few, d.tones.all))

pub held_length : (d : Draft) (b : Book) → Holds d b → length b.tones ≡ length (entered_tones d)
held_length d b h = ap length (sym h.tones) ∙ length-map (entered_tones d) noted

pub held_count : (d : Draft) (b : Book) → Holds d b → length b.tones ≡ d.tones.count
held_count d b h = held_length d b h ∙ entered_count d

-- a tone of the book, by its number
pub held_tone : (d : Draft) (b : Book) → Holds d b → (t : ℕ) → slice_get b.tones t ≡ option_map noted (slice_get (entered_tones d) t)
held_tone d b h t = ap (λ ns. slice_get ns t) (sym h.tones) ∙ slice_get-map noted (entered_tones d) t

-- a tone that is there is in the book
pub held_within : (d : Draft) (b : Book) → Holds d b → (t : ℕ) (x : Tone) → slice_get (entered_tones d) t ≡ Some x → t < length b.tones
held_within d b h t x is = slice_get_within b.tones t (noted x) (held_tone d b h t ∙ ap (option_map noted) is)

pub held_absent : (d : Draft) (b : Book) → Holds d b → (t : ℕ) → slice_get (entered_tones d) t ≡ None → length b.tones ≤ t
held_absent d b h t none = grind (arith, slice_get_cases b.tones t, held_tone d b h t)

noted_candidates : (ts : List Tone) (t : ℕ) (x : Tone) → slice_get ts t ≡ Some x → get_or (map (λ n. n.candidates) (map noted ts)) t [] ≡ listed x
noted_candidates [] t x is = absurd (let z : ◌≡◌ {A = ℕ} 0 1 = cc in omega arith)
noted_candidates (z ∷ ts) zero x is = let e : z ≡ x = cc in ap listed e
noted_candidates (z ∷ ts) (suc t) x is = noted_candidates ts t x is

-- the book has the candidates that the draft's tone lists
pub held_candidates : (d : Draft) (b : Book) → Holds d b → (t : ℕ) (x : Tone) → slice_get (entered_tones d) t ≡ Some x → candidates_of b t ≡ listed x
held_candidates d b h t x is = ap (λ ns. get_or (map (λ n. n.candidates) ns) t []) (sym h.tones) ∙ noted_candidates (entered_tones d) t x is

-- one tone changed
pub tone_changed : (ts : List Tone) (t : ℕ) (x y : Tone) (f : List Ratio → List Ratio) → slice_get ts t ≡ Some x
    → y.pitch ≡ x.pitch → listed y ≡ f (listed x) → map noted (set ts t y) ≡ changed t f (map noted ts)
tone_changed [] t x y f is p l = refl
tone_changed (z ∷ ts) zero x y f is p l =
    let e : x ≡ z = cc in
    ap (λ m. m ∷ map noted ts) (λ i. record { pitch = (p ∙ ap (λ w. w.pitch) e) i; candidates = (l ∙ ap (λ w. f (listed w)) e) i })
tone_changed (z ∷ ts) (suc t) x y f is p l = ap (λ ns. noted z ∷ ns) (tone_changed ts t x y f is p l)

-- the draft with one tone replaced holds the book with the candidates of that tone changed
pub tone_replaced : (d d' : Draft) (b : Book) → Holds d b → (t : ℕ) (x y : Tone) (f : List Ratio → List Ratio) → slice_get (entered_tones d) t ≡ Some x
    → y.pitch ≡ x.pitch → listed y ≡ f (listed x) → entered_tones d' ≡ set (entered_tones d) t y → d'.bounds ≡ d.bounds
    → Holds d' (record { tones = changed t f b.tones; bound = b.bound })
tone_replaced d d' b h t x y f is p l tones bounds = record {
  tones = ap (map noted) tones ∙ (tone_changed (entered_tones d) t x y f is p l ∙ ap (changed t f) h.tones);
  bounds = λ i j hi hj apart. ap (λ bs. get_or bs (pair_place i j) 0) bounds ∙ h.bounds i j hi hj apart;
}

-- a draft is its tones and bounds
pub same_draft : (d d' : Draft) → d'.tones ≡ d.tones → d'.bounds ≡ d.bounds → d' ≡ d
same_draft d d' tones bounds = λ i. record {
  tones = tones i;
  bounds = bounds i;
  pairs = is_prop→PathP (λ j. length (bounds j) ≡ 496) (λ j x y. ℕ_set _ _ x y) d'.pairs d.pairs i;
}

-- a draft holds the book of its own tables
pub held_book : (d : Draft) → Holds d (book_of d)
held_book d = record { tones = refl; bounds = λ i j hi hj apart. refl }

-- a tone that is read is there, and lists at most 8 candidates
candidates_there : (ts : List Tone) (t : ℕ) (cs : List Ratio) → option_map (λ n. n.candidates) (slice_get (map noted ts) t) ≡ Some cs → (t < length ts) × (length cs ≤ 8)
candidates_there [] t cs e = absurd (let z : ◌≡◌ {A = ℕ} 0 1 = cc in omega arith)
candidates_there (x ∷ ts) zero cs e =
    let is : listed x ≡ cs = cc in
    (omega arith, omega (arith, ap length is, length-take-le x.candidates.count x.candidates.table (omega (arith, x.candidates.few, x.candidates.all)), x.candidates.few))
candidates_there (x ∷ ts) (suc t) cs e = let r = candidates_there ts t cs e in (omega (arith, r.0), r.1)

pub read_there : (d : Draft) (t : ℕ) (cs : List Ratio) → candidates_in (book_of d) t ≡ Some cs → (t < d.tones.count) × (length cs ≤ 8)
read_there d t cs e = let r = candidates_there (entered_tones d) t cs e in (omega (arith, r.0, entered_count d), r.1)
