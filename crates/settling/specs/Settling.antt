-- What it is to settle a scale: choices, their bounds and cost, live starts, trials and the best choice.
use Rattle.std.specs.Prelude.{◌≡◌, ℕ, ◌<◌, Bool, true, false, cond, not, ◌&&◌, ◌||◌, ◌⊎◌, List, [], ◌∷◌, map, length, take, fold, sum_by, ◌==◌, ◌≢◌, nat_le, nat_lt, slice_index, slice_index_or}
use Rattle.std.specs.List.{range_with_len, flat_map, list_all}

-- A costing has a value nil, a value for each distance, a joining of two values, and a comparison.
pub record Costing (V : Type 0) : Type 0 where
  pub nil : V
  pub worth : ℕ → V
  pub join : V → V → V
  pub no_more : V → V → Bool

-- The laws of a costing: joining is associative and commutative and only adds, nil is neutral, and values are in one line.
pub record Lawful {V : Type 0} (c : Costing V) : Type 0 where
  pub associative : (u v w : V) → c.join (c.join u v) w ≡ c.join u (c.join v w)
  pub commutative : (u v : V) → c.join u v ≡ c.join v u
  pub neutral : (v : V) → c.join c.nil v ≡ v
  pub reflexive : (v : V) → c.no_more v v ≡ true
  pub transitive : (u v w : V) → c.no_more u v ≡ true → c.no_more v w ≡ true → c.no_more u w ≡ true
  pub total : (u v : V) → (c.no_more u v ≡ true) ⊎ (c.no_more v u ≡ true)
  pub antisymmetric : (u v : V) → c.no_more u v ≡ true → c.no_more v u ≡ true → u ≡ v
  pub grows : (v w : V) → c.no_more v (c.join v w) ≡ true

-- A problem has the candidates of each tone, the distance of two ratios, and the bound of each two tones.
pub record Problem (R : Type 0) : Type 0 where
  pub candidates : List (List R)
  pub distance : R → R → ℕ
  pub bound : ℕ → ℕ → ℕ

-- The test holds of each.
abbrev pub all : {A : Type 0} → (A → Bool) → List A → Bool
all = list_all

-- The numbers below n, in order.
abbrev pub below : ℕ → List ℕ
below n = range_with_len 0 n

-- The pairs of n tones, each once, the earlier tone first.
abbrev pub pairs : ℕ → List (ℕ × ℕ)
pairs n = flat_map (λ j. map (λ i. (i, j)) (below j)) (below n)

-- A choice has one number for each of these tones, and it is the number of one of the tone's candidates.
pub record Choice {R : Type 0} (tones : List (List R)) (s : List ℕ) : Type 0 where
  pub full : length s ≡ length tones
  pub listed : (i : ℕ) → i < length s → slice_index s i < length (slice_index_or tones i [])

-- All choices for these tones, in list order.
abbrev pub choices : {R : Type 0} → List (List R) → List (List ℕ)
choices [] = [] ∷ []
choices (cs ∷ tones) = flat_map (λ n. map (λ s. n ∷ s) (choices tones)) (below (length cs))

-- List order compares the first numbers, then the second ones, and so on.
abbrev pub before : List ℕ → List ℕ → Bool
before [] [] = false
before [] (y ∷ ys) = false
before (x ∷ xs) [] = false
before (x ∷ xs) (y ∷ ys) = nat_lt x y || (x == y && before xs ys)

module _ {R : Type 0} (p : Problem R) (none : R) where
  -- The ratio that s lays at tone i.
  abbrev pub laid : List ℕ → ℕ → R
  laid s i = slice_index_or (slice_index_or p.candidates i []) (slice_index s i) none

  -- The distance of tones i and j under s.
  abbrev pub apart : List ℕ → ℕ → ℕ → ℕ
  apart s i j = p.distance (laid s i) (laid s j)

  -- The distance of each pair is at most its bound.
  abbrev pub keeps : List ℕ → Bool
  keeps s = all (λ (i, j). nat_le (apart s i j) (p.bound i j)) (pairs (length s))

  module _ {V : Type 0} (c : Costing V) where
    -- The values of the distances of all pairs, joined, from nil.
    abbrev pub cost : List ℕ → V
    cost s = fold (λ v (i, j). c.join v (c.worth (apart s i j))) c.nil (pairs (length s))

    -- The full choice f comes before the start s, keeps the bounds and costs no more.
    abbrev pub bars : List ℕ → List ℕ → Bool
    bars f s = before (take (length s) f) s && (keeps f && c.no_more (cost f) (cost s))

    -- A start is live if it keeps the bounds and costs less than every choice before it that keeps them.
    abbrev pub live : List ℕ → Bool
    live s = keeps s && all (λ f. not (bars f s)) (choices p.candidates)

    -- The trials at tone k: each of its candidates, for every live start that is k tones long.
    abbrev pub trials_at : ℕ → ℕ
    trials_at k = sum_by (λ s. cond (live s) (length (slice_index_or p.candidates k [])) 0) (choices (take k p.candidates))

    -- The trials of all tones.
    abbrev pub trials : ℕ
    trials = sum_by trials_at (below (length p.candidates))

    -- The best choice keeps the bounds, none that keeps them costs less, and any other that costs the same comes later.
    pub record Best (s : List ℕ) : Type 0 where
      pub choice : Choice p.candidates s
      pub kept : keeps s ≡ true
      pub cheapest : (t : List ℕ) → Choice p.candidates t → keeps t ≡ true → c.no_more (cost s) (cost t) ≡ true
      pub first : (t : List ℕ) → Choice p.candidates t → keeps t ≡ true → cost t ≡ cost s → (t ≢ s) → before s t ≡ true
