-- The choices are listed in list order, each once.
use Rattle.std.proofs.Common.{◌≡◌, ℕ, zero, suc, ◌+◌, ◌<◌, true, ◌&&◌, eqb, ltb, List, [], ◌∷◌, ◌++◌, map, length, refl, arith}
use Rattle.std.specs.List.{range_with_len, flat_map, AllByRecursion}
use Rattle.std.proofs.ByRecursion.{All-append, All-map}
use Rattle.std.proofs.lemmas.Bool.{or_left, or_right, and_from, lt-ltb, eq-eqb}
use Rattle.settling.specs.Settling.{before, choices}

-- Each comes before all that follow it.
abbrev pub Ascending : List (List ℕ) → Type 0
Ascending [] = Unit {0}
Ascending (x ∷ xs) = AllByRecursion (λ y. before x y ≡ true) xs × Ascending xs

ascending_append : (xs ys : List (List ℕ)) → Ascending xs → Ascending ys → AllByRecursion (λ x. AllByRecursion (λ y. before x y ≡ true) ys) xs → Ascending (xs ++ ys)
ascending_append [] ys a b h = b
ascending_append (x ∷ xs) ys a b h = (All-append (λ y. before x y ≡ true) xs ys a.0 h.0, ascending_append xs ys a.1 b h.1)

ascending_cons : (n : ℕ) (xs : List (List ℕ)) → Ascending xs → Ascending (map (λ s. n ∷ s) xs)
ascending_cons n [] a = tt
ascending_cons n (x ∷ xs) a =
    (All-map (λ y. before (n ∷ x) y ≡ true) (λ s. n ∷ s) xs (after x xs a.0), ascending_cons n xs a.1)
  where
    after : (x : List ℕ) (ys : List (List ℕ)) → AllByRecursion (λ y. before x y ≡ true) ys → AllByRecursion (λ y. before (n ∷ x) (n ∷ y) ≡ true) ys
    after x [] h = tt
    after x (y ∷ ys) h = (or_right (ltb n n) (eqb n n && before x y) (and_from (eqb n n) (before x y) (eq-eqb n n refl) h.0), after x ys h.1)

later : (m n : ℕ) (xs ys : List (List ℕ)) → m < n → AllByRecursion (λ x. AllByRecursion (λ y. before x y ≡ true) (map (λ s. n ∷ s) ys)) (map (λ s. m ∷ s) xs)
later m n xs ys h = All-map (λ x. AllByRecursion (λ y. before x y ≡ true) (map (λ s. n ∷ s) ys)) (λ s. m ∷ s) xs (each xs)
  where
    every : (x : List ℕ) (ys : List (List ℕ)) → AllByRecursion (λ y. before (m ∷ x) (n ∷ y) ≡ true) ys
    every x [] = tt
    every x (y ∷ ys) = (or_left (ltb m n) (eqb m n && before x y) (lt-ltb m n h), every x ys)

    each : (xs : List (List ℕ)) → AllByRecursion (λ x. AllByRecursion (λ y. before (m ∷ x) y ≡ true) (map (λ s. n ∷ s) ys)) xs
    each [] = tt
    each (x ∷ xs) = (All-map (λ y. before (m ∷ x) y ≡ true) (λ s. n ∷ s) ys (every x ys), each xs)

ascending_gathered : (xs : List (List ℕ)) → Ascending xs → (a n : ℕ) → Ascending (flat_map (λ m. map (λ s. m ∷ s) xs) (range_with_len a n))
ascending_gathered xs h a zero = tt
ascending_gathered xs h a (suc n) =
    ascending_append (map (λ s. a ∷ s) xs) (flat_map (λ m. map (λ s. m ∷ s) xs) (range_with_len (a + 1) n)) (ascending_cons a xs h) (ascending_gathered xs h (a + 1) n)
    (first (a + 1) n (omega arith))
  where
    join_all : (ys zs ws : List (List ℕ)) → AllByRecursion (λ x. AllByRecursion (λ y. before x y ≡ true) ys) ws → AllByRecursion (λ x. AllByRecursion (λ y. before x y ≡ true) zs) ws → AllByRecursion (λ x. AllByRecursion (λ y. before x y ≡ true) (ys ++ zs)) ws
    join_all ys zs [] p q = tt
    join_all ys zs (w ∷ ws) p q = (All-append (λ y. before w y ≡ true) ys zs p.0 q.0, join_all ys zs ws p.1 q.1)

    none_after : (ws : List (List ℕ)) → AllByRecursion (λ x. AllByRecursion (λ y. before x y ≡ true) []) ws
    none_after [] = tt
    none_after (w ∷ ws) = (tt, none_after ws)

    first : (b k : ℕ) → a < b → AllByRecursion (λ x. AllByRecursion (λ y. before x y ≡ true) (flat_map (λ m. map (λ s. m ∷ s) xs) (range_with_len b k))) (map (λ s. a ∷ s) xs)
    first b zero l = none_after (map (λ s. a ∷ s) xs)
    first b (suc k) l = join_all (map (λ s. b ∷ s) xs) (flat_map (λ m. map (λ s. m ∷ s) xs) (range_with_len (b + 1) k)) (map (λ s. a ∷ s) xs) (later a b xs xs l) (first (b + 1) k (omega arith))

pub choices_ascending : {R : Type 0} (tones : List (List R)) → Ascending (choices tones)
choices_ascending [] = (tt, tt)
choices_ascending (cs ∷ tones) = ascending_gathered (choices tones) (choices_ascending tones) 0 (length cs)
