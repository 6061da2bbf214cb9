-- The number that the digits of a word write.
use Rattle.std.proofs.Common.{◌≡◌, ℕ, ◌+◌, ◌-◌, ◌*◌, ◌^◌, ◌<◌, Bool, true, false, cond, ◌&&◌, leb, List, [], ◌∷◌, Some, None, decimal, Option, sym, refl, arith, rules}
use Rattle.ratio.specs.Words.{Digits, value_on, Numeral}
use Rattle.ratio.proofs.Numerals.{decimal_numeral, decimal_writes}
use Rattle.command.specs.Forms.{NumberRead}

-- the byte is a digit
abbrev pub is_digit : ℕ → Bool
is_digit c = leb 48 c && leb c 57

-- the number that the bytes write after digits that write n, if each is a digit
abbrev pub read_on : ℕ → List ℕ → Option ℕ
read_on n [] = Some n
read_on n (c ∷ cs) = cond (is_digit c) (read_on (n * 10 + (c - 48)) cs) None

pub read_digits : (n : ℕ) (cs : List ℕ) → Digits cs → read_on n cs ≡ Some (value_on n cs)
read_digits n [] d = refl
read_digits n (c ∷ cs) d = search (rules, read_digits (n * 10 + (c - 48)) cs d.1)

pub digits_read : (n : ℕ) (cs : List ℕ) (m : ℕ) → read_on n cs ≡ Some m → Digits cs × (m ≡ value_on n cs)
digits_read n [] m e = search rules
digits_read n (c ∷ cs) m e =
    elim (is_digit c) as (λ t. is_digit c ≡ t → cond t (read_on (n * 10 + (c - 48)) cs) None ≡ Some m → Digits (c ∷ cs) × (m ≡ value_on n (c ∷ cs))) [
      | true ↦ λ d g. search (rules, digits_read (n * 10 + (c - 48)) cs m g)
      | false ↦ λ d g. grind arith
    ] refl e

pub none_read : (w : List ℕ) → read_on 0 w ≡ None → Numeral w → ⊥
none_read w e h = grind (arith, read_digits 0 w h.digits, e)

-- a word is read in one way
pub number_read_once : (w : List ℕ) (r s : Option ℕ) → NumberRead w r → NumberRead w s → r ≡ s
number_read_once w None None h g = refl
number_read_once w None (Some m) h g = absurd (h g.0)
number_read_once w (Some n) None h g = absurd (g h.0)
number_read_once w (Some n) (Some m) h g = cc (h.1, g.1)

-- a number that was printed is read back
pub printed_number : (w : List ℕ) (r : Option ℕ) → NumberRead w r → (n : ℕ) → n < 10 ^ 10 → w ≡ decimal n → r ≡ Some n
printed_number w r h n small e =
    number_read_once w r (Some n) h (rw e (decimal_numeral n small, sym (decimal_writes n small)))
