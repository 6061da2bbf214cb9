-- Gräf's words: a scale takes one pitch from the candidates of each tone, is admissible if all distances keep their bounds, and has an average distance.
use Rattle.std.specs.Prelude.{◌≡◌, ℕ, ◌-◌, ◌*◌, ◌<◌, ◌≤◌, true, cond, List, [], map, length, sum_by, ◌==◌, ◌≢◌, nat_le, slice_index_or}
use Rattle.std.specs.List.{ContainsAt}
use Rattle.settling.specs.Costings.{total}
use Rattle.settling.specs.Settling.{Problem, Choice, below, laid, keeps, cost}

-- The distance of two pitches is the same both ways, and so is the bound of two tones.
pub record Symmetric {R : Type 0} (p : Problem R) : Type 0 where
  pub distances : (x y : R) → p.distance x y ≡ p.distance y x
  pub bounds : (i j : ℕ) → p.bound i j ≡ p.bound j i

module _ {R : Type 0} (p : Problem R) (none : R) where
  -- A scale has one pitch for each tone, and it is one of the tone's candidates.
  pub record Scale (xs : List R) : Type 0 where
    pub full : length xs ≡ length p.candidates
    pub listed : (i : ℕ) → i < length xs → ContainsAt (slice_index_or p.candidates i []) (slice_index_or xs i none)

  -- A scale is admissible if each two of its pitches are no further apart than their bound.
  pub record Admissible (xs : List R) : Type 0 where
    pub scale : Scale xs
    pub near : (i j : ℕ) → i < length xs → j < length xs → (i ≢ j) → p.distance (slice_index_or xs i none) (slice_index_or xs j none) ≤ p.bound i j

  -- The distances of all pitches i and j, i ≠ j, added up.
  abbrev pub spread : List R → ℕ
  spread xs =
      sum_by (λ i. sum_by (λ j. cond (i == j) 0 (p.distance (slice_index_or xs i none) (slice_index_or xs j none))) (below (length xs))) (below (length xs))

  -- The average distance, the spread over n (n - 1) for n pitches, is for xs no more than for ys.
  abbrev pub NoWider : List R → List R → Type 0
  NoWider xs ys = spread xs * (length ys * (length ys - 1)) ≤ spread ys * (length xs * (length xs - 1))

  -- The pitches that a choice lays.
  abbrev pub pitches : List ℕ → List R
  pitches s = map (laid p none s) (below (length s))

-- What the bench settles, in these words: a choice keeps the bounds exactly if its scale is admissible, and by the sum of
-- the distances it costs no more than another exactly if the average distance of its scale is no more.
pub record InGraefsWords {R : Type 0} (p : Problem R) (none : R) : Type 0 where
  pub admissible : (s : List ℕ) → Choice p.candidates s → keeps p none s ≡ true → Admissible p none (pitches p none s)
  pub kept : (s : List ℕ) → Choice p.candidates s → Admissible p none (pitches p none s) → keeps p none s ≡ true
  pub scales : (xs : List R) → Scale p none xs → (s : List ℕ) × Choice p.candidates s × (pitches p none s ≡ xs)
  pub closer : (s t : List ℕ) → Choice p.candidates s → Choice p.candidates t → nat_le (cost p none total s) (cost p none total t) ≡ true → NoWider p none (pitches p none s) (pitches p none t)
  pub cheaper : (s t : List ℕ) → Choice p.candidates s → Choice p.candidates t → NoWider p none (pitches p none s) (pitches p none t) → nat_le (cost p none total s) (cost p none total t) ≡ true
