-- List order.
use Rattle.std.proofs.Common.{◌≡◌, ℕ, ◌<◌, true, false, ◌&&◌, eqb, ltb, ◌⊎◌, List, [], ◌∷◌, ◌++◌, length, take, drop, refl, ap, ◌∙◌, subst, inl, inr, ⊎_elim, arith}
use Rattle.std.proofs.lemmas.List.{take-append-drop}
use Rattle.std.proofs.lemmas.Bool.{and_parts, and_from, or_cases, or_left, or_right, both_ways, ltb-true, lt-ltb, eqb-true, eq-eqb}
use Rattle.settling.specs.Settling.{before}

-- an order that is settled stays, whatever follows
pub before_append : (a b x y : List ℕ) → before a b ≡ true → before (a ++ x) (b ++ y) ≡ true
before_append [] [] x y e = absurd (both_ways false refl e)
before_append [] (n ∷ b) x y e = absurd (both_ways false refl e)
before_append (m ∷ a) [] x y e = absurd (both_ways false refl e)
before_append (m ∷ a) (n ∷ b) x y e =
    ⊎_elim (λ less. or_left (ltb m n) (eqb m n && before (a ++ x) (b ++ y)) less)
    (λ rest. let both = and_parts (eqb m n) (before a b) rest in
    or_right (ltb m n) (eqb m n && before (a ++ x) (b ++ y)) (and_from (eqb m n) (before (a ++ x) (b ++ y)) both.0 (before_append a b x y both.1)))
    (or_cases (ltb m n) (eqb m n && before a b) e)

pub before_from_take : (n : ℕ) (a b : List ℕ) → before (take n a) (take n b) ≡ true → before a b ≡ true
before_from_take n a b e =
    subst (λ l. before l b ≡ true) (take-append-drop n a)
    (subst (λ l. before (take n a ++ drop n a) l ≡ true) (take-append-drop n b) (before_append (take n a) (take n b) (drop n a) (drop n b) e))

pub before_push : (a : List ℕ) (m n : ℕ) → m < n → before (a ++ (m ∷ [])) (a ++ (n ∷ [])) ≡ true
before_push [] m n h = or_left (ltb m n) (eqb m n && false) (lt-ltb m n h)
before_push (k ∷ a) m n h =
    or_right (ltb k k) (eqb k k && before (a ++ (m ∷ [])) (a ++ (n ∷ [])))
    (and_from (eqb k k) (before (a ++ (m ∷ [])) (a ++ (n ∷ []))) (eq-eqb k k refl) (before_push a m n h))

pub before_push_cases : (a b : List ℕ) (m n : ℕ) → length a ≡ length b → before (a ++ (m ∷ [])) (b ++ (n ∷ [])) ≡ true → (before a b ≡ true) ⊎ ((a ≡ b) × (m < n))
before_push_cases [] [] m n l e =
    ⊎_elim (λ less. inr (refl, ltb-true m n less)) (λ rest. absurd (both_ways false refl (and_parts (eqb m n) false rest).1)) (or_cases (ltb m n) (eqb m n && false) e)
before_push_cases [] (k ∷ b) m n l e = absurd (omega arith)
before_push_cases (j ∷ a) [] m n l e = absurd (omega arith)
before_push_cases (j ∷ a) (k ∷ b) m n l e =
    ⊎_elim (λ less. inl (or_left (ltb j k) (eqb j k && before a b) less))
    (λ rest. let both = and_parts (eqb j k) (before (a ++ (m ∷ [])) (b ++ (n ∷ []))) rest in
    ⊎_elim (λ earlier. inl (or_right (ltb j k) (eqb j k && before a b) (and_from (eqb j k) (before a b) both.0 earlier)))
    (λ same. let heads : j ≡ k = eqb-true j k both.0 in inr (ap (λ h. h ∷ a) heads ∙ ap (λ r. k ∷ r) same.0, same.1))
    (before_push_cases a b m n (omega arith) both.1))
    (or_cases (ltb j k) (eqb j k && before (a ++ (m ∷ [])) (b ++ (n ∷ []))) e)
