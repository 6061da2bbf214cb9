-- The digits of a number with decimals.
use Rattle.std.proofs.Common.{◌≡◌, ℕ, zero, suc, ◌+◌, ◌-◌, ◌*◌, ◌/◌, ◌%◌, ◌^◌, ◌<◌, ◌≤◌, List, [], ◌∷◌, ◌++◌, length, replicate, codes, decimal, sym, refl, ap, ◌∙◌, ⊎_elim, append_assoc, append-nil, length-append, pow-suc, div-le_self, arith}
use Rattle.std.proofs.lemmas.Bool.{cases_lt}
use Rattle.std.proofs.lemmas.List.{replicate_more}
use Rattle.std.proofs.Math.Arith.{mod-mul}
use Rattle.std.specs.Fmt.{styled_decimal, format_spec, padded_integral, char_count}
use Rattle.std.proofs.Math.Nat.{div-div-eq-div-mul, one-le-pow, pow-succ'}
use Rattle.std.proofs.lemmas.Fmt.{decimal_digit, decimal_step, decimal_is_IsNumeral}
use Rattle.std.specs.Str.Parse.{AllDigits, digits_value, digits_value_after}
use Rattle.std.specs.Char.{digit_value}
use Rattle.lines.specs.Decimals.{last_digits, with_decimals}

-- a number in at least k places, with zeros before it
abbrev pub in_places : ℕ → ℕ → List ℕ
in_places k n = replicate (k - length (decimal n)) 48 ++ decimal n

-- the digits but the last are those of the number without its last digit
last_digits_end : (k n : ℕ) → last_digits (suc k) n ≡ last_digits k (n / 10) ++ ((48 + n % 10) ∷ [])
last_digits_end zero n = ap (λ m. (48 + m % 10) ∷ []) (omega arith)
last_digits_end (suc k) n =
    let rest : n / 10 ^ suc k ≡ n / 10 / 10 ^ k = ap (λ p. n / p) (pow-succ' 10 k) ∙ sym (div-div-eq-div-mul n 10 (10 ^ k)) in
    rw (rest, last_digits_end k n)

-- and so of a number in places, where the first of them is not the last
in_places_end : (k n : ℕ) → n < 2 ^ 64 → in_places (suc (suc k)) n ≡ in_places (suc k) (n / 10) ++ ((48 + n % 10) ∷ [])
in_places_end k n small =
    ⊎_elim
    (λ (one : n < 10).
    let front : n / 10 ≡ 0 = omega arith in
    let last : n % 10 ≡ n = omega arith in
    let zeros : suc (suc k) - 1 ≡ k + 1 = omega arith in
    let fewer : suc k - 1 ≡ k = omega arith in
    rw (decimal_digit n one, front, last, decimal_digit 0 (omega arith), zeros, fewer, replicate_more {X = ℕ} k 48))
    (λ (more : 10 ≤ n).
    let shorter : suc (suc k) - length (decimal (n / 10) ++ ((48 + n % 10) ∷ [])) ≡ suc k - length (decimal (n / 10)) = omega (arith, length-append (decimal (n / 10)) ((48 + n % 10) ∷ [])) in
    rw (decimal_step n more small, shorter) (sym (append_assoc _ (decimal (n / 10)) _)))
    (cases_lt n 10)

-- a remainder in its places is the last digits
places_are_digits : (k n : ℕ) → n < 2 ^ 64 → in_places (suc k) (n % 10 ^ suc k) ≡ last_digits (suc k) n
places_are_digits zero n small = rw (decimal_digit (n % 10) (omega arith)) (ap (λ d. (48 + d) ∷ []) (omega arith))
places_are_digits (suc k) n small =
    let parts : n % 10 ^ suc (suc k) ≡ (n / 10 % 10 ^ suc k) * 10 + n % 10 = ap (λ p. n % p) (pow-suc 10 (suc k)) ∙ mod-mul n {c = 10} (one-le-pow (suc k) 10 (omega arith)) (omega arith) in
    let front : n % 10 ^ suc (suc k) / 10 ≡ n / 10 % 10 ^ suc k = omega arith in
    let last : n % 10 ^ suc (suc k) % 10 ≡ n % 10 = omega arith in
    in_places_end k (n % 10 ^ suc (suc k)) (omega arith) ∙ rw (front, last, places_are_digits k (n / 10) (omega arith)) (sym (last_digits_end (suc k) n))

-- what `{:0width$}` writes of a number
zeros_before : (k n : ℕ) → styled_decimal (format_spec 32 0 4 (suc k) (2 ^ 64 - 1)) n ≡ in_places (suc k) n
unfolding padded_integral char_count
zeros_before k n =
    let zeros : suc k - length (decimal n) - 0 - 0 ≡ suc k - length (decimal n) = omega arith in
    rw (zeros, append-nil) (grind arith)

-- wholes, period and decimals are written
pub decimals_written : (k n : ℕ) → 0 < k → n < 2 ^ 64 → decimal (n / 10 ^ k) ++ (codes "." ++ styled_decimal (format_spec 32 0 4 k (2 ^ 64 - 1)) (n % 10 ^ k)) ≡ with_decimals k n
decimals_written zero n some small = absurd (omega arith)
decimals_written (suc k) n some small = ap (λ digits. decimal (n / 10 ^ suc k) ++ (codes "." ++ digits)) (zeros_before k (n % 10 ^ suc k) ∙ places_are_digits k n small)

-- digits that are read after others
pub read_after : (n : ℕ) (ds es : List ℕ) → digits_value_after 10 n (ds ++ es) ≡ digits_value_after 10 (digits_value_after 10 n ds) es
read_after n [] es = refl
read_after n (d ∷ ds) es = read_after (n * 10 + digit_value d) ds es

-- the last k digits, read after the number without them, give the number
pub last_digits_read : (k n : ℕ) → digits_value_after 10 (n / 10 ^ k) (last_digits k n) ≡ n
last_digits_read zero n = omega arith
last_digits_read (suc k) n =
    let shorter : n / 10 ^ suc k ≡ n / 10 ^ k / 10 = ap (λ p. n / p) (pow-suc 10 k) ∙ sym (div-div-eq-div-mul n (10 ^ k) 10) in
    let digit : digit_value (48 + n / 10 ^ k % 10) ≡ n / 10 ^ k % 10 = grind arith in
    ap (λ m. digits_value_after 10 m (last_digits k n)) (omega arith) ∙ last_digits_read k n

-- the text of a number with decimals, without the period, is read as the number
pub decimals_read : (k n : ℕ) → n < 2 ^ 64 → digits_value 10 (decimal (n / 10 ^ k) ++ last_digits k n) ≡ n
decimals_read k n small =
    read_after 0 (decimal (n / 10 ^ k)) (last_digits k n) ∙ ap (λ m. digits_value_after 10 m (last_digits k n)) (decimal_is_IsNumeral (n / 10 ^ k) (omega (arith, div-le_self n (10 ^ k)))).1 ∙ last_digits_read k n

-- k digits, each from 0 to 9
pub last_digits_are : (k n : ℕ) → (length (last_digits k n) ≡ k) × AllDigits 10 (last_digits k n)
last_digits_are zero n = (refl, tt)
last_digits_are (suc k) n = (ap suc (last_digits_are k n).0, (grind arith, (last_digits_are k n).1))
