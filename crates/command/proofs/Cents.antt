-- What a word of cents writes.
use Rattle.std.proofs.Common.{◌≡◌, ℕ, suc, ◌+◌, ◌-◌, ◌*◌, ◌/◌, ◌^◌, ◌<◌, ◌≤◌, Bool, true, false, List, [], ◌∷◌, ◌++◌, length, get_or, take, drop, ℤ, pos, negsuc, neg_ℤ, nat_abs, Some, None, decimal, Option, sym, refl, ap, ◌∙◌, subst, arith, append_assoc, length-append, length-drop, length-take}
use Rattle.std.proofs.lemmas.Fmt.{length-decimal-le, decimal_nonempty}
use Rattle.std.proofs.lemmas.List.{take-append-drop, take_at, drop_at, drop_more, drop_all, take_rest}
use Rattle.std.proofs.lemmas.Str.Parse.{digits_value_short}
use Rattle.lines.specs.Decimals.{last_digits, with_decimals, signed_decimals}
use Rattle.lines.proofs.Decimals.{decimals_read, last_digits_are}
use Rattle.ratio.specs.Words.{Digits, value_on, value, Numeral}
use Rattle.ratio.proofs.Numerals.{digits_and_value, decimal_numeral}
use Rattle.command.specs.Forms.{NumberRead, CentsWord, CentsRead, cents}
use Rattle.command.specs.Unsigned.{UnsignedRead}

-- ---- digits

digits_front : (a b : List ℕ) → Digits (a ++ b) → Digits a
digits_front [] b d = tt
digits_front (c ∷ a) b d = (d.0, digits_front a b d.1)

digits_back : (a b : List ℕ) → Digits (a ++ b) → Digits b
digits_back [] b d = d
digits_back (c ∷ a) b d = digits_back a b d.1

digits_joined : (a b : List ℕ) → Digits a → Digits b → Digits (a ++ b)
digits_joined [] b d e = e
digits_joined (c ∷ a) b d e = (d.0, digits_joined a b d.1 e)

value_after : (n : ℕ) (a b : List ℕ) → value_on n (a ++ b) ≡ value_on (value_on n a) b
value_after n [] b = refl
value_after n (c ∷ a) b = value_after (n * 10 + (c - 48)) a b

three_after : (n : ℕ) (b : List ℕ) → length b ≡ 3 → value_on n b ≡ n * 1000 + value b
three_after n [] e = absurd (omega arith)
three_after n (x ∷ []) e = absurd (omega arith)
three_after n (x ∷ (y ∷ [])) e = absurd (omega arith)
three_after n (x ∷ (y ∷ (z ∷ []))) e = omega arith
three_after n (x ∷ (y ∷ (z ∷ (u ∷ b)))) e = absurd (omega arith)

-- wholes and thousandths are written as the number of thousandths, with a period between its digits
value_joined : (a b : List ℕ) → length b ≡ 3 → value (a ++ b) ≡ value a * 1000 + value b
value_joined a b e = value_after 0 a b ∙ three_after (value a) b e

-- ---- without a minus

-- a period stands between these two parts of a word, of which the second has three bytes
pub record Parted (w a b : List ℕ) : Type 0 where
  pub three : length b ≡ 3
  pub joined : w ≡ a ++ (46 ∷ b)

-- the last three bytes of a word, and what stands before a period before them
pub parted_word : (w front b : List ℕ) → front ≡ take (length w - 3) w → b ≡ drop (length w - 3) w → 1 ≤ length front → get_or front (length front - 1) 0 ≡ 46 → Parted w (take (length front - 1) front) b
parted_word w front b f t some e =
    let k : ℕ = length front - 1 in
    let last = drop_more front k 0 (omega arith) in
    let none = drop_all (k + 1) front (omega arith) in
    let whole : front ≡ take k front ++ (46 ∷ []) = cc (take-append-drop k front, last, none, e) in
    let joined : w ≡ front ++ b = cc (take-append-drop (length w - 3) w) in
    record {
      three = omega (arith, ap length f, ap length t, length-take (length w - 3) w, length-drop (length w - 3) w);
      joined = joined ∙ ap (λ l. l ++ b) whole ∙ append_assoc (take k front) (46 ∷ []) b;
    }

-- it is parted_word in one way
same_parts : (a b a' b' : List ℕ) → a ++ (46 ∷ b) ≡ a' ++ (46 ∷ b') → length b ≡ length b' → (a ≡ a') × (b ≡ b')
same_parts a b a' b' e n =
    let len : length a ≡ length a' = omega (arith, ap length e, length-append a (46 ∷ b), length-append a' (46 ∷ b')) in
    let front = ap (take (length a')) e in
    let back = ap (drop (length a')) e in
    (cc (front, take_at a (46 ∷ b) (length a') len, take_at a' (46 ∷ b') (length a') refl), cc (back, drop_at a (46 ∷ b) (length a') len, drop_at a' (46 ∷ b') (length a') refl))

-- the parts of a word of cents are numerals
pub numerals : (w a b x y : List ℕ) → Parted w a b → CentsWord w false x y → Numeral a × Numeral b
numerals w a b x y p h =
    let same = same_parts a b x y (sym p.joined ∙ h.joined) (p.three ∙ sym h.three) in
    rw (same.0, same.1) (
      record { some = h.some; few = omega (arith, h.few); digits = digits_front x y h.digits },
      record { some = omega (arith, h.three); few = omega (arith, h.three); digits = digits_back x y h.digits },
    )

-- a word with numerals for parts is a word of cents, if the first is short enough
pub from_numerals : (w a b : List ℕ) → Parted w a b → length a ≤ 5 → Numeral a → Numeral b → CentsWord w false a b
from_numerals w a b p few m n = record { some = m.some; few = few; three = p.three; digits = digits_joined a b m.digits n.digits; joined = p.joined }

-- how large the numbers are that few digits write
pub number_below : (w : List ℕ) (n k : ℕ) → NumberRead w (Some n) → length w ≤ k → n < 10 ^ k
number_below w n k h few = rw h.1 (digits_value_short digits_and_value w k h.0.digits few)

-- ---- with a minus or without

abbrev pub negated : Option ℤ → Option ℤ
negated None = None
negated (Some p) = Some (neg_ℤ p)

-- a minus before a word of cents
with_minus : (w a b : List ℕ) → CentsWord w false a b → CentsWord (45 ∷ w) true a b
with_minus w a b h = record { some = h.some; few = h.few; three = h.three; digits = h.digits; joined = ap (λ l. 45 ∷ l) h.joined }

without_minus : (w a b : List ℕ) → CentsWord (45 ∷ w) true a b → CentsWord w false a b
without_minus w a b h = let e = h.joined in record { some = h.some; few = h.few; three = h.three; digits = h.digits; joined = cc e }

-- a word of cents without a minus begins with a digit
first_digit : (w a b : List ℕ) → CentsWord (45 ∷ w) false a b → ⊥
first_digit w [] b h = absurd (omega (arith, h.some))
first_digit w (c ∷ a) b h = let e = h.joined in let minus : c ≡ 45 = cc e in omega (arith, h.digits.0)

no_minus_word : (w : List ℕ) → UnsignedRead w None → (minus : Bool) (a b : List ℕ) → CentsWord (45 ∷ w) minus a b → ⊥
no_minus_word w h true a b g = h a b (without_minus w a b g)
no_minus_word w h false a b g = first_digit w a b g

behind_minus : (w : List ℕ) (r : Option ℤ) → UnsignedRead w r → CentsRead (45 ∷ w) (negated r)
behind_minus w None h = no_minus_word w h
behind_minus w (Some p) h = (true, (h.0, (h.1.0, (with_minus w h.0 h.1.0 h.1.1.0, ap neg_ℤ h.1.1.1))))

no_plain_word : (w : List ℕ) → ((v : List ℕ) → w ≡ 45 ∷ v → ⊥) → UnsignedRead w None → (minus : Bool) (a b : List ℕ) → CentsWord w minus a b → ⊥
no_plain_word w none h true a b g = none (a ++ (46 ∷ b)) g.joined
no_plain_word w none h false a b g = h a b g

-- what is read behind a minus, below zero
pub minus_read : (w : List ℕ) (r : Option ℤ) → 1 ≤ length w → get_or w 0 0 ≡ 45 → UnsignedRead (take (length w - 1) (drop 1 w)) r → CentsRead w (negated r)
minus_read w r some e h =
    let rest : List ℕ = take (length w - 1) (drop 1 w) in
    let is : w ≡ 45 ∷ rest = drop_more w 0 0 some ∙ ap (λ c. c ∷ drop 1 w) e ∙ ap (λ l. 45 ∷ l) (sym (take_rest w 1)) in
    subst (λ l. CentsRead l (negated r)) (sym is) (behind_minus rest r h)

-- what is read where no minus stands
pub plain_read : (w : List ℕ) (r : Option ℤ) → ((v : List ℕ) → w ≡ 45 ∷ v → ⊥) → UnsignedRead w r → CentsRead w r
plain_read w None none h = no_plain_word w none h
plain_read w (Some p) none h = (false, h)

-- ---- a word is read in one way

same_unsigned : (w a b a' b' : List ℕ) → CentsWord w false a b → CentsWord w false a' b' → (a ≡ a') × (b ≡ b')
same_unsigned w a b a' b' h g = same_parts a b a' b' (sym h.joined ∙ g.joined) (h.three ∙ sym g.three)

cents_once : (w : List ℕ) (m m' : Bool) (a b a' b' : List ℕ) → CentsWord w m a b → CentsWord w m' a' b' → cents m a b ≡ cents m' a' b'
cents_once w false false a b a' b' h g =
    let same = same_unsigned w a b a' b' h g in
    cc (same.0, same.1)
cents_once w true true a b a' b' h g =
    let rest : List ℕ = a ++ (46 ∷ b) in
    let is = h.joined in
    let one = without_minus rest a b (subst (λ l. CentsWord l true a b) is h) in
    let two = without_minus rest a' b' (subst (λ l. CentsWord l true a' b') is g) in
    let same = same_unsigned rest a b a' b' one two in
    cc (same.0, same.1)
cents_once w true false a b a' b' h g = absurd (first_digit (a ++ (46 ∷ b)) a' b' (subst (λ l. CentsWord l false a' b') h.joined g))
cents_once w false true a b a' b' h g = absurd (first_digit (a' ++ (46 ∷ b')) a b (subst (λ l. CentsWord l false a b) g.joined h))

pub cents_read_once : (w : List ℕ) (r s : Option ℤ) → CentsRead w r → CentsRead w s → r ≡ s
cents_read_once w None None h g = refl
cents_read_once w None (Some q) h g = absurd (h g.0 g.1.0 g.1.1.0 g.1.1.1.0)
cents_read_once w (Some p) None h g = absurd (g h.0 h.1.0 h.1.1.0 h.1.1.1.0)
cents_read_once w (Some p) (Some q) h g =
    cc (h.1.1.1.1, g.1.1.1.1, cents_once w h.0 g.0 h.1.0 h.1.1.0 g.1.0 g.1.1.0 h.1.1.1.0 g.1.1.1.0)

-- ---- what was printed is read back

printed_word : (n : ℕ) → n < 10 ^ 8 → CentsWord (with_decimals 3 n) false (decimal (n / 10 ^ 3)) (last_digits 3 n)
printed_word n small = record {
  some = decimal_nonempty (n / 10 ^ 3) (omega arith);
  few = length-decimal-le 5 (n / 10 ^ 3) (omega arith) (omega arith) (omega arith);
  three = (last_digits_are 3 n).0;
  digits = digits_joined (decimal (n / 10 ^ 3)) (last_digits 3 n) (decimal_numeral (n / 10 ^ 3) (omega arith)).digits (digits_and_value.from (last_digits 3 n) (last_digits_are 3 n).1);
  joined = refl;
}

printed_value : (n : ℕ) → n < 10 ^ 8 → value (decimal (n / 10 ^ 3)) * 1000 + value (last_digits 3 n) ≡ n
printed_value n small =
    let d = (printed_word n small).digits in
    sym (value_joined (decimal (n / 10 ^ 3)) (last_digits 3 n) (last_digits_are 3 n).0) ∙ digits_and_value.same (decimal (n / 10 ^ 3) ++ last_digits 3 n) (digits_and_value.to (decimal (n / 10 ^ 3) ++ last_digits 3 n) d) ∙ decimals_read 3 n (omega arith)

printed_read : (p : ℤ) → nat_abs p < 10 ^ 8 → CentsRead (signed_decimals 3 p) (Some p)
printed_read (pos n) small = (false, (decimal (n / 10 ^ 3), (last_digits 3 n, (printed_word n small, ap pos (sym (printed_value n small))))))
printed_read (negsuc n) small =
    (true, (decimal (suc n / 10 ^ 3), (last_digits 3 (suc n), (with_minus (with_decimals 3 (suc n)) (decimal (suc n / 10 ^ 3)) (last_digits 3 (suc n)) (printed_word (suc n) small), ap (λ m. neg_ℤ (pos m)) (sym (printed_value (suc n) small))))))

-- a number of thousandths that was printed is read back
pub printed_cents : (w : List ℕ) (r : Option ℤ) → CentsRead w r → (p : ℤ) → nat_abs p < 10 ^ 8 → w ≡ signed_decimals 3 p → r ≡ Some p
printed_cents w r h p small e = cents_read_once w r (Some p) h (rw e (printed_read p small))
