-- The decimal of a number is a numeral that writes it, and two numbers written as a ratio word are read back.
use Rattle.std.proofs.Common.{◌≡◌, ℕ, ◌^◌, ◌<◌, List, [], ◌∷◌, ◌++◌, Some, None, decimal, Option, sym, refl, ◌∙◌, arith, rules}
use Rattle.std.proofs.lemmas.Fmt.{length-decimal-le, digits_decimal, digits_value-decimal, decimal_nonempty}
use Rattle.std.proofs.lemmas.Str.Parse.{IsNumeralModel, numerals_by_fold}
use Rattle.ratio.specs.Words.{Digits, value_on, value, Numeral, RatioWord, PartsRead}

-- ---- decimals

-- digits and the number that they write, as the library's lemmas on decimals take them
pub digits_and_value : IsNumeralModel Digits value
digits_and_value = numerals_by_fold Digits (search rules) value_on (search rules)

-- a number of at most ten digits is written as a numeral
pub decimal_numeral : (n : ℕ) → n < 10 ^ 10 → Numeral (decimal n)
decimal_numeral n h =
    record { some = decimal_nonempty n (omega arith); few = length-decimal-le 10 n (omega arith) h (omega arith); digits = digits_decimal digits_and_value n (omega arith) }

-- and that numeral writes the number
pub decimal_writes : (n : ℕ) → n < 10 ^ 10 → value (decimal n) ≡ n
decimal_writes n h = digits_value-decimal digits_and_value n (omega arith)

-- ---- ratio words

-- a word is split in one way into digits, a slash and a rest, since a digit is no slash
pub split_once : (a b a' b' : List ℕ) → Digits a → Digits a' → a ++ (47 ∷ b) ≡ a' ++ (47 ∷ b') → (a ≡ a') × (b ≡ b')
split_once [] b [] b' h h' e = (refl, cc)
split_once [] b (c ∷ a') b' h h' e = let slash : c ≡ 47 = cc in absurd (omega arith)
split_once (c ∷ a) b [] b' h h' e = let slash : c ≡ 47 = cc in absurd (omega arith)
split_once (c ∷ a) b (c' ∷ a') b' h h' e =
    let first : c ≡ c' = cc in
    let rest = split_once a b a' b' h.1 h'.1 (cc) in
    (cc rest.0, rest.1)

-- a word is read in one way
pub parts_read_once : (w : List ℕ) (r s : Option (ℕ × ℕ)) → PartsRead w r → PartsRead w s → r ≡ s
parts_read_once w None None h g = refl
parts_read_once w None (Some q) h g = absurd (h g.0 g.1.0 g.1.1.0)
parts_read_once w (Some p) None h g = absurd (g h.0 h.1.0 h.1.1.0)
parts_read_once w (Some p) (Some q) h g =
    let one = h.1.1.0 in
    let two = g.1.1.0 in
    let same = split_once h.0 h.1.0 g.0 g.1.0 one.above.digits two.above.digits (sym one.joined ∙ two.joined) in
    cc (h.1.1.1, g.1.1.1, same.0, same.1)

-- two numbers, written in decimal with a slash between, are read as these two
pub decimal_parts : (n d : ℕ) → n < 10 ^ 10 → d < 10 ^ 10 → PartsRead (decimal n ++ (47 ∷ decimal d)) (Some (n, d))
decimal_parts n d h g =
    let ratio : RatioWord (decimal n ++ (47 ∷ decimal d)) (decimal n) (decimal d) = record { above = decimal_numeral n h; below = decimal_numeral d g; joined = refl } in
    (decimal n, (decimal d, (ratio, cc (decimal_writes n h, decimal_writes d g))))
