-- The words that a line holds, with their columns.
use Rattle.std.proofs.Common.{◌≡◌, ℕ, suc, ◌+◌, ◌-◌, ◌≤◌, min, List, [], ◌∷◌, map, length, get_or, take, drop, sym, refl, ap, ◌∙◌, arith, ◌≢◌, length-take}
use lib.ListN.{length-map}
use Rattle.std.specs.List.{AllByRecursion, slice_get}
use Rattle.std.proofs.lemmas.List.{take_all, take_rest, drop_more}
use Rattle.command.specs.Reading.{verb_word, arguments, Begins, WellSpaced, Placed}
use Rattle.command.specs.Telling.{views, Full, Given, columns_of}
use Rattle.command.specs.Words.{words, placed}
use Rattle.command.specs.declared.command.Verb.{Verb}
use Rattle.command.specs.declared.command.Verb.TheVariants.{Tone, Try, Strike, Bound, Level, Settle}
use Rattle.command.specs.declared.word.Word.{Word}

-- ---- words with columns

placed_bytes : (column : ℕ) (ws : List (List ℕ)) → map (λ v. v.0) (placed column ws) ≡ ws
placed_bytes column [] = refl
placed_bytes column (w ∷ ws) = ap (λ vs. w ∷ vs) (placed_bytes (column + length w + 1) ws)

pub length-placed : (column : ℕ) (ws : List (List ℕ)) → length (placed column ws) ≡ length ws
length-placed column ws = sym (length-map (placed column ws) (λ v. v.0)) ∙ ap length (placed_bytes column ws)

views_bytes : (ws : List Word) → map (λ v. v.0) (views ws) ≡ map (λ w. w.bytes.now) ws
views_bytes [] = refl
views_bytes (w ∷ ws) = ap (λ vs. w.bytes.now ∷ vs) (views_bytes ws)

pub views_columns : (ws : List Word) → map (λ v. v.1) (views ws) ≡ map (λ w. w.column) ws
views_columns [] = refl
views_columns (w ∷ ws) = ap (λ vs. w.column ∷ vs) (views_columns ws)

pub length-views : (ws : List Word) → length (views ws) ≡ length ws
length-views ws = length-map {B = List ℕ × ℕ} ws (λ w. (w.bytes.now, w.column))

-- a command has one word behind its name, two or three
pub one_to_three : (v : Verb) → (1 ≤ arguments v) × (arguments v ≤ 3)
one_to_three Tone = (omega arith, omega arith)
one_to_three Try = (omega arith, omega arith)
one_to_three Strike = (omega arith, omega arith)
one_to_three Bound = (omega arith, omega arith)
one_to_three Level = (omega arith, omega arith)
one_to_three Settle = (omega arith, omega arith)

-- ---- words that have bytes

pub full_words : (ws : List Word) → Full ws → AllByRecursion (λ w. w ≢ []) (map (λ w. w.bytes.now) ws)
full_words [] h = tt
full_words (w ∷ ws) h = (h.0, full_words ws h.1)

words_full : (ws : List Word) → AllByRecursion (λ w. w ≢ []) (map (λ w. w.bytes.now) ws) → Full ws
words_full [] h = tt
words_full (w ∷ ws) h = (h.0, words_full ws h.1)

-- ---- the name and the words behind it

first_is : (ws : List (List ℕ)) (v : List ℕ × ℕ) (vs : List (List ℕ × ℕ)) → take 5 (placed 1 ws) ≡ v ∷ vs → get_or ws 0 [] ≡ v.0
first_is [] v vs e = absurd (omega (arith, ap length e))
first_is (w ∷ ws) v vs e = cc e

module _ (line : List ℕ) (name : Word) (ws : List Word) (held : take 5 (placed 1 (words line)) ≡ views (name ∷ ws)) where
  pub begun : (v : Verb) → length line ≤ 80 → name.bytes.now ≡ verb_word v → Begins line v
  begun v short e = record { short = short; named = first_is (words line) (name.bytes.now, name.column) (views ws) held ∙ e }

  -- how many words are told apart
  pub counted : suc (length ws) ≡ min 5 (length (words line))
  counted = omega (arith, length-take 5 (placed 1 (words line)), ap length held, length-views (name ∷ ws), length-placed 1 (words line))

  -- all words of the line, if they are not too many
  pub all_held : length (words line) ≤ 5 → placed 1 (words line) ≡ views (name ∷ ws)
  all_held few = sym (take_all 5 (placed 1 (words line)) (omega (arith, length-placed 1 (words line)))) ∙ held

  pub words_are : length (words line) ≤ 5 → words line ≡ name.bytes.now ∷ map (λ w. w.bytes.now) ws
  words_are few = sym (placed_bytes 1 (words line)) ∙ ap (map (λ u. u.0)) (all_held few) ∙ views_bytes (name ∷ ws)

  -- a word without bytes is not well spaced
  pub not_full : (v : Verb) → (Full ws → ⊥) → WellSpaced line v → ⊥
  not_full v f s =
      let are = words_are (omega (arith, s.count, (one_to_three v).1)) in
      let single = s.single in
      let all = rw are at single in
      f (words_full ws all.1)

  -- the columns of a command's words are those of the line
  pub columns_placed : (v : Verb) → WellSpaced line v → Placed line (columns_of ws)
  columns_placed v s =
      let all = all_held (omega (arith, s.count, (one_to_three v).1)) in
      let at = λ (k : ℕ). sym (ap (λ us. slice_get (map (λ u. u.1) us) (suc k)) all ∙ ap (λ us. slice_get us k) (views_columns ws)) in
      record { first = at 0; second = at 1; third = at 2 }

-- ---- the words that are told apart, of which the first is the name

-- what a place without a word is read as
abbrev pub blank : Word
blank = record { bytes = record { ref_ptr = (0, 0); now = [] }; column = 0 }

abbrev pub name_of : List Word → Word
name_of ws = get_or ws 0 blank

abbrev pub behind : List Word → List Word
behind ws = take (length ws - 1) (drop 1 ws)

pub parted : (line : List ℕ) (ws : List Word) → views ws ≡ take 5 (placed 1 (words line)) → 1 ≤ length ws → take 5 (placed 1 (words line)) ≡ views (name_of ws ∷ behind ws)
parted line ws e some = sym e ∙ ap views (drop_more ws 0 blank some ∙ ap (λ us. name_of ws ∷ us) (sym (take_rest ws 1)))

pub given : (line : List ℕ) (v : Verb) (ws : List Word) → views ws ≡ take 5 (placed 1 (words line)) → 1 ≤ length ws → length line ≤ 80 → (name_of ws).bytes.now ≡ verb_word v → Full (behind ws) → Given line v (name_of ws) (behind ws)
given line v ws e some short named full =
    let held = parted line ws e some in
    record { begins = begun line (name_of ws) (behind ws) held v short named; held = held; full = full }
