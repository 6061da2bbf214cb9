-- What holds of each of a list, of each number below another, of each pair of tones, and of each choice.
use Rattle.std.proofs.Common.{◌≡◌, ℕ, zero, suc, ◌+◌, ◌<◌, Bool, true, false, List, [], ◌∷◌, ◌++◌, map, length, get_or, sum_by, sym, refl, ap, ◌∙◌, subst, ⊎_elim, arith}
use Rattle.std.specs.List.{ContainsAt, flat_map, AllByRecursion}
use Rattle.std.proofs.lemmas.List.{map-id, flat_map_more}
use Rattle.std.proofs.ByRecursion.{All-get_or, All-from_get_or, All-append, All-map, all-has, all_has_itself, All-weaker}
use Rattle.std.proofs.lemmas.List.FromFn.{length-range_with_len, get_or-range_with_len, map-range_with_len_more}
use Rattle.std.proofs.lemmas.List.Elements.{All-from_recursion, recursion_from_All}
use Rattle.std.proofs.lemmas.List.Sums.{AllPass-from_list_all, list_all-from_AllPass, sum_by-cons, sum_by-append}
use Rattle.std.proofs.lemmas.Bool.{and_cases, both_ways}
use Rattle.settling.specs.Settling.{all, below, pairs, Choice, choices}

module _ {A : Type 0} (t : A → Bool) where
  pub all_true : (xs : List A) → all t xs ≡ true → AllByRecursion (λ x. t x ≡ true) xs
  all_true xs e = recursion_from_All (λ x. t x ≡ true) xs (AllPass-from_list_all t xs e)

  pub true_all : (xs : List A) → AllByRecursion (λ x. t x ≡ true) xs → all t xs ≡ true
  true_all xs h = list_all-from_AllPass t xs (All-from_recursion (λ x. t x ≡ true) xs h)

  -- where a test fails of a list, it fails of one of its elements
  pub one_fails : (P : A → Type 0) (xs : List A) → AllByRecursion P xs → all t xs ≡ false → (x : A) × P x × (t x ≡ false)
  one_fails P [] h e = absurd (both_ways true e refl)
  one_fails P (x ∷ xs) h e = ⊎_elim (λ f. (x, h.0, f)) (λ f. one_fails P xs h.1 f) (and_cases (t x) (all t xs) e)

module _ {A : Type 0} (P : A → Type 0) where
  append_all : (xs ys : List A) → AllByRecursion P (xs ++ ys) → AllByRecursion P xs × AllByRecursion P ys
  append_all [] ys h = (tt, h)
  append_all (x ∷ xs) ys h = let rest = append_all xs ys h.1 in ((h.0, rest.0), rest.1)

  pub map_all : {B : Type 0} (f : B → A) (ys : List B) → AllByRecursion P (map f ys) → AllByRecursion (λ y. P (f y)) ys
  map_all f [] h = tt
  map_all f (y ∷ ys) h = (h.0, map_all f ys h.1)

  pub all_gathered : {B : Type 0} (f : B → List A) (ys : List B) → AllByRecursion (λ y. AllByRecursion P (f y)) ys → AllByRecursion P (flat_map f ys)
  all_gathered f [] h = tt
  all_gathered f (y ∷ ys) h = All-append P (f y) (flat_map f ys) h.0 (all_gathered f ys h.1)

  pub gathered_all : {B : Type 0} (f : B → List A) (ys : List B) → AllByRecursion P (flat_map f ys) → AllByRecursion (λ y. AllByRecursion P (f y)) ys
  gathered_all f [] h = tt
  gathered_all f (y ∷ ys) h = let parts = append_all (f y) (flat_map f ys) h in (parts.0, gathered_all f ys parts.1)

-- ---- the numbers below n

module _ (P : ℕ → Type 0) (n : ℕ) where
  pub all_below : ((i : ℕ) → i < n → P i) → AllByRecursion P (below n)
  all_below h =
      All-from_get_or P (below n) 0
      (λ i l. let l' : i < n = omega (arith, length-range_with_len 0 n) in
      let e : i ≡ get_or (below n) i 0 = omega (arith, get_or-range_with_len 0 n i 0 l') in subst P e (h i l'))

  pub below_all : AllByRecursion P (below n) → (i : ℕ) → i < n → P i
  below_all h i l =
      let e : get_or (below n) i 0 ≡ i = omega (arith, get_or-range_with_len 0 n i 0 l) in
      subst P e (All-get_or P (below n) i 0 (omega (arith, length-range_with_len 0 n)) h)

pub below_more : (n : ℕ) → below (n + 1) ≡ below n ++ (n ∷ [])
below_more n = sym (map-id (below (n + 1))) ∙ map-range_with_len_more (λ i. i) 0 n n (omega arith) ∙ ap (λ l. l ++ (n ∷ [])) (map-id (below n))

-- ---- the pairs of n tones

module _ (P : ℕ × ℕ → Type 0) (n : ℕ) where
  pub all_pairs : ((i j : ℕ) → i < j → j < n → P (i, j)) → AllByRecursion P (pairs n)
  all_pairs h =
      all_gathered P (λ j. map (λ i. (i, j)) (below j)) (below n)
      (all_below (λ j. AllByRecursion P (map (λ i. (i, j)) (below j))) n
      (λ j l. All-map P (λ i. (i, j)) (below j) (all_below (λ i. P (i, j)) j (λ i k. h i j k l))))

  pub pairs_all : AllByRecursion P (pairs n) → (i j : ℕ) → i < j → j < n → P (i, j)
  pairs_all h i j k l =
      below_all (λ i. P (i, j)) j
      (map_all P (λ i. (i, j)) (below j)
      (below_all (λ j. AllByRecursion P (map (λ i. (i, j)) (below j))) n (gathered_all P (λ j. map (λ i. (i, j)) (below j)) (below n) h) j l))
      i k

pub gathered_push : {A B : Type 0} (f : B → List A) (ys : List B) (y : B) → flat_map f (ys ++ (y ∷ [])) ≡ flat_map f ys ++ f y
gathered_push f ys y = sym (flat_map_more f [] ys y)

pub pairs_more : (n : ℕ) → pairs (n + 1) ≡ pairs n ++ map (λ i. (i, n)) (below n)
pairs_more n =
    ap (flat_map (λ j. map (λ i. (i, j)) (below j))) (below_more n) ∙ gathered_push (λ j. map (λ i. (i, j)) (below j)) (below n) n

-- ---- choices

module _ {R : Type 0} where
  longer : (n : ℕ) (s : List ℕ) (cs : List R) (tones : List (List R)) → n < length cs → Choice tones s → (i : ℕ) → i < length (n ∷ s) → get_or (n ∷ s) i 0 < length (get_or (cs ∷ tones) i [])
  longer n s cs tones h ch zero l = h
  longer n s cs tones h ch (suc i) l = ch.listed i (omega arith)

  choice_cons : (n : ℕ) (s : List ℕ) (cs : List R) (tones : List (List R)) → n < length cs → Choice tones s → Choice (cs ∷ tones) (n ∷ s)
  choice_cons n s cs tones h ch = record { full = ap suc ch.full; listed = longer n s cs tones h ch }

  choice_rest : (n : ℕ) (s : List ℕ) (cs : List R) (tones : List (List R)) → Choice (cs ∷ tones) (n ∷ s) → Choice tones s
  choice_rest n s cs tones ch = record { full = omega (arith, ch.full); listed = λ i l. ch.listed (suc i) (omega arith) }

  -- what is listed are choices
  pub all_choice : (tones : List (List R)) → AllByRecursion (Choice tones) (choices tones)
  all_choice [] = (record { full = refl; listed = λ i l. absurd (omega arith) }, tt)
  all_choice (cs ∷ tones) =
      all_gathered (Choice (cs ∷ tones)) (λ n. map (λ s. n ∷ s) (choices tones)) (below (length cs))
      (all_below (λ n. AllByRecursion (Choice (cs ∷ tones)) (map (λ s. n ∷ s) (choices tones))) (length cs)
      (λ n l. All-map (Choice (cs ∷ tones)) (λ s. n ∷ s) (choices tones)
      (All-weaker (Choice tones) (λ s. Choice (cs ∷ tones) (n ∷ s)) (λ s ch. choice_cons n s cs tones l ch) (choices tones) (all_choice tones))))

  -- what holds of all that are listed holds of every choice
  pub every_choice : (tones : List (List R)) (P : List ℕ → Type 0) → AllByRecursion P (choices tones) → (s : List ℕ) → Choice tones s → P s
  every_choice [] P h [] ch = h.0
  every_choice [] P h (n ∷ s) ch = absurd (omega (arith, ch.full))
  every_choice (cs ∷ tones) P h [] ch = absurd (omega (arith, ch.full))
  every_choice (cs ∷ tones) P h (n ∷ s) ch =
      every_choice tones (λ s. P (n ∷ s))
      (map_all P (λ s. n ∷ s) (choices tones)
      (below_all (λ n. AllByRecursion P (map (λ s. n ∷ s) (choices tones))) (length cs) (gathered_all P (λ n. map (λ s. n ∷ s) (choices tones)) (below (length cs)) h) n (ch.listed 0 (omega arith))))
      s (choice_rest n s cs tones ch)

  -- the choices are exactly what is listed
  pub has_choice : (tones : List (List R)) (s : List ℕ) → Choice tones s → ContainsAt (choices tones) s
  has_choice tones s ch = every_choice tones (ContainsAt (choices tones)) (all_has_itself (choices tones)) s ch

  pub choice_from_has : (tones : List (List R)) (s : List ℕ) → ContainsAt (choices tones) s → Choice tones s
  choice_from_has tones s h = all-has (Choice tones) (choices tones) s (all_choice tones) h

  -- a choice, and a number for one tone more
  pub choice_push : (tones : List (List R)) (cs : List R) (s : List ℕ) (q : ℕ) → Choice tones s → q < length cs → Choice (tones ++ (cs ∷ [])) (s ++ (q ∷ []))
  choice_push [] cs [] q ch h = choice_cons q [] cs [] h ch
  choice_push [] cs (n ∷ s) q ch h = absurd (omega (arith, ch.full))
  choice_push (ds ∷ tones) cs [] q ch h = absurd (omega (arith, ch.full))
  choice_push (ds ∷ tones) cs (n ∷ s) q ch h =
      choice_cons n (s ++ (q ∷ [])) ds (tones ++ (cs ∷ [])) (ch.listed 0 (omega arith)) (choice_push tones cs s q (choice_rest n s ds tones ch) h)

-- ---- sums

module _ {A : Type 0} (g : A → ℕ) where
  pub sum_by_map : {B : Type 0} (f : B → A) (ys : List B) → sum_by g (map f ys) ≡ sum_by (λ y. g (f y)) ys
  sum_by_map f [] = refl
  sum_by_map f (y ∷ ys) = sum_by-cons g (f y) (map f ys) ∙ ap (λ n. g (f y) + n) (sum_by_map f ys) ∙ sym (sum_by-cons (λ y. g (f y)) y ys)

  pub sum_by_gathered : {B : Type 0} (f : B → List A) (ys : List B) → sum_by g (flat_map f ys) ≡ sum_by (λ y. sum_by g (f y)) ys
  sum_by_gathered f [] = refl
  sum_by_gathered f (y ∷ ys) =
      sum_by-append g (f y) (flat_map f ys) ∙ ap (λ n. sum_by g (f y) + n) (sum_by_gathered f ys)
      ∙ sym (sum_by-cons (λ y. sum_by g (f y)) y ys)

pub sum_by_same : {A : Type 0} (f g : A → ℕ) (xs : List A) → ((x : A) → f x ≡ g x) → sum_by f xs ≡ sum_by g xs
sum_by_same f g xs e = ap (λ h. sum_by h xs) (λ i x. e x i)

pub sum_by_both : {A : Type 0} (f g : A → ℕ) (xs : List A) → sum_by (λ x. f x + g x) xs ≡ sum_by f xs + sum_by g xs
sum_by_both f g [] = refl
sum_by_both f g (x ∷ xs) =
    sum_by-cons (λ x. f x + g x) x xs ∙ omega (arith, sum_by_both f g xs, sum_by-cons f x xs, sum_by-cons g x xs)

-- a sum over the choices for one tone more, by the choices for the tones before
pub sum_choices_push : {R : Type 0} (tones : List (List R)) (cs : List R) (g : List ℕ → ℕ) → sum_by g (choices (tones ++ (cs ∷ []))) ≡ sum_by (λ s. sum_by (λ q. g (s ++ (q ∷ []))) (below (length cs))) (choices tones)
sum_choices_push [] cs g =
    sum_by_gathered g (λ n. map (λ s. n ∷ s) ([] ∷ [])) (below (length cs))
    ∙ sum_by_same (λ n. 0 + g (n ∷ [])) (λ n. g (n ∷ [])) (below (length cs)) (λ n. omega arith) ∙ omega arith
sum_choices_push (ds ∷ tones) cs g =
    sum_by_gathered g (λ n. map (λ s. n ∷ s) (choices (tones ++ (cs ∷ [])))) (below (length ds))
    ∙ sum_by_same (λ n. sum_by g (map (λ s. n ∷ s) (choices (tones ++ (cs ∷ []))))) (λ n. sum_by (λ s. sum_by (λ q. g (n ∷ (s ++ (q ∷ [])))) (below (length cs))) (choices tones)) (below (length ds))
    (λ n. sum_by_map g (λ s. n ∷ s) (choices (tones ++ (cs ∷ []))) ∙ sum_choices_push tones cs (λ s. g (n ∷ s)))
    ∙ sum_by_same (λ n. sum_by (λ s. sum_by (λ q. g (n ∷ (s ++ (q ∷ [])))) (below (length cs))) (choices tones)) (λ n. sum_by (λ s. sum_by (λ q. g (s ++ (q ∷ []))) (below (length cs))) (map (λ s. n ∷ s) (choices tones))) (below (length ds))
    (λ n. sym (sum_by_map (λ s. sum_by (λ q. g (s ++ (q ∷ []))) (below (length cs))) (λ s. n ∷ s) (choices tones)))
    ∙ sym (sum_by_gathered (λ s. sum_by (λ q. g (s ++ (q ∷ []))) (below (length cs))) (λ n. map (λ s. n ∷ s) (choices tones)) (below (length ds)))
