-- A line cut at its spaces.
use Rattle.std.proofs.Common.{◌≡◌, ℕ, zero, suc, ◌+◌, ◌<◌, ◌≤◌, true, false, cond, eqb, List, [], ◌∷◌, ◌++◌, length, get_or, take, drop, sym, refl, ap, ◌∙◌, arith, add_assoc, length-append, length-take}
use Rattle.std.proofs.lemmas.List.{take_all, take_more, drop_more, map-append}
use Rattle.std.proofs.lemmas.List.Splits.{join_with_byte-slice_split}
use Rattle.std.proofs.lemmas.Bool.Decides.{nat_tests}
use Rattle.std.specs.List.{AllByRecursion, join_with_byte, onto_first}
use Rattle.command.specs.Telling.{views}
use Rattle.command.specs.Words.{words, placed, CutAtSpaces}
use Rattle.command.specs.declared.word.Word.{Word}
use Rattle.command.proofs.Lines.{length-placed, length-views}

-- ---- the words one by one

-- where a word ends, if the words with the spaces between them end here
ends : (n column : ℕ) (ws : List (List ℕ)) (d : List ℕ) → column + length (join_with_byte 32 ws) ≤ n → (k : ℕ) → k < length ws → (get_or (placed column ws) k ([], 0)).1 + length (get_or ws k d) ≤ n
ends n column [] d h k lt = absurd (omega arith)
ends n column (w ∷ []) d h zero lt = h
ends n column (w ∷ []) d h (suc k) lt = absurd (omega arith)
ends n column (w ∷ (v ∷ ws)) d h zero lt = omega (arith, length-append w (32 ∷ join_with_byte 32 (v ∷ ws)))
ends n column (w ∷ (v ∷ ws)) d h (suc k) lt = ends n (column + length w + 1) (v ∷ ws) d (omega (arith, length-append w (32 ∷ join_with_byte 32 (v ∷ ws)))) k (omega arith)

-- the first n words of a line are held, and the next stands at this column
pub record Held (line : List ℕ) (n column : ℕ) (ws : List Word) : Type 0 where
  pub within : n ≤ length (words line)
  pub few : n ≤ 5
  pub held : views ws ≡ take n (placed 1 (words line))
  pub next : placed column (drop n (words line)) ≡ drop n (placed 1 (words line))

length_held : (line : List ℕ) (n column : ℕ) (ws : List Word) → Held line n column ws → length ws ≡ n
length_held line n column ws h = omega (arith, length-views ws, ap length h.held, length-take n (placed 1 (words line)), length-placed 1 (words line), h.within)

module _ (line : List ℕ) (n column : ℕ) (ws : List Word) (w : List ℕ) (h : Held line n column ws) (turn : (n < length (words line)) × (w ≡ get_or (words line) n w)) where
  -- the next word and those behind it
  next_is : (get_or (placed 1 (words line)) n ([], 0) ≡ (w, column)) × (placed (column + length w + 1) (drop (n + 1) (words line)) ≡ drop (n + 1) (placed 1 (words line)))
  next_is =
      let one = drop_more (words line) n w turn.0 in
      let two = drop_more (placed 1 (words line)) n ([], 0) (omega (arith, length-placed 1 (words line), turn.0)) in
      let both : (w, column) ∷ placed (column + length w + 1) (drop (n + 1) (words line)) ≡ get_or (placed 1 (words line)) n ([], 0) ∷ drop (n + 1) (placed 1 (words line)) = cc (h.next, ap (placed column) one, turn.1) in
      (cc both, cc both)

  -- the end of the next word is one of the line's
  pub room : column + length w ≤ 1 + length line
  room =
      let end = ends (1 + length line) 1 (words line) w (omega (arith, ap length (join_with_byte-slice_split 32 line))) n turn.0 in
      omega (arith, ap (λ p. p.1) next_is.0, ap length turn.1)

  -- one word more
  pub held_more : (u : Word) → u.bytes.now ≡ w → u.column ≡ column → length ws < 5 → Held line (n + 1) (column + (length w + 1)) (ws ++ (u ∷ []))
  held_more u bytes place few = record {
    within = omega (arith, turn.0);
    few = omega (arith, length_held line n column ws h);
    held = map-append {B = List ℕ × ℕ} (λ u. (u.bytes.now, u.column)) ws (u ∷ []) ∙ sym (take_more (placed 1 (words line)) n ([], 0) (omega (arith, length-placed 1 (words line), turn.0)) ∙ cc (h.held, next_is.0));
    next = rw (sym (add_assoc column (length w) 1)) next_is.1;
  }

-- all words of the line are held
pub held_all : (line : List ℕ) (n column : ℕ) (ws : List Word) → Held line n column ws → n ≡ length (words line) → views ws ≡ take 5 (placed 1 (words line))
held_all line n column ws h e =
    let all = placed 1 (words line) in
    let len = length-placed 1 (words line) in
    h.held ∙ take_all n all (omega arith) ∙ sym (take_all 5 all (omega (arith, h.few)))

-- ---- the law of the cut

-- a line has a first word
pub words_cons : (line : List ℕ) → (w : List ℕ) × ((ws : List (List ℕ)) × (words line ≡ w ∷ ws))
words_cons [] = ([], ([], refl))
words_cons (c ∷ cs) =
    elim (eqb c 32) as (λ t. (w : List ℕ) × ((ws : List (List ℕ)) × (cond t ([] ∷ words cs) (onto_first c (words cs)) ≡ w ∷ ws)))
    [ true ↦ ([], (words cs, refl)) | false ↦ onto_cons (words cs) ]
  where
    onto_cons : (ws : List (List ℕ)) → (w : List ℕ) × ((vs : List (List ℕ)) × (onto_first c ws ≡ w ∷ vs))
    onto_cons [] = (c ∷ [], ([], refl))
    onto_cons (w ∷ ws) = (c ∷ w, (ws, refl))

spaceless_onto : (c : ℕ) (ws : List (List ℕ)) → (c ≡ 32 → ⊥) → AllByRecursion (λ w. AllByRecursion (λ b. b ≡ 32 → ⊥) w) ws → AllByRecursion (λ w. AllByRecursion (λ b. b ≡ 32 → ⊥) w) (onto_first c ws)
spaceless_onto c [] ne h = ((ne, tt), tt)
spaceless_onto c (w ∷ ws) ne h = ((ne, h.0), h.1)

spaceless : (line : List ℕ) → AllByRecursion (λ w. AllByRecursion (λ b. b ≡ 32 → ⊥) w) (words line)
spaceless [] = (tt, tt)
spaceless (c ∷ cs) =
    elim (eqb c 32) as (λ t. eqb c 32 ≡ t → AllByRecursion (λ w. AllByRecursion (λ b. b ≡ 32 → ⊥) w) (cond t ([] ∷ words cs) (onto_first c (words cs)))) [
      | true ↦ λ e. (tt, spaceless cs)
      | false ↦ λ e. spaceless_onto c (words cs) (grind (arith, nat_tests)) (spaceless cs)
    ] refl

-- the words of a line are the line cut at each space and nowhere else
pub cut_at_spaces : (line : List ℕ) → CutAtSpaces line
cut_at_spaces line = record { whole = join_with_byte-slice_split 32 line; spaceless = spaceless line }
