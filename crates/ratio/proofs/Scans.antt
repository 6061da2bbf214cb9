-- What the scan of a ratio word answers from a scanner on, and that from the start this is what PartsRead says.
use Rattle.std.proofs.Common.{◌≡◌, ℕ, ◌+◌, ◌-◌, ◌<◌, ◌≤◌, Bool, true, false, cond, eqb, List, [], ◌∷◌, ◌++◌, length, get_or, drop, Some, None, Option, refl, arith, rules}
use Rattle.std.proofs.lemmas.List.{at_drop_more, at_drop_all}
use Rattle.ratio.specs.declared.word.Part.{Part}
use Rattle.ratio.specs.declared.word.Scanner.{Scanner}
use Rattle.ratio.specs.declared.word.Scanner.TheVariants.{Start, Numerator, SlashSeen, Denominator}
use Rattle.ratio.specs.Words.{Digits, value_on, value, Numeral, PartsRead}
use Rattle.ratio.specs.Scanning.{is_digit, goes_on, no_digit, with_digit, allowed, step_of}

-- the answer of a scanner at the end of the word
abbrev pub finish : Scanner → Option (ℕ × ℕ)
finish Start = None
finish (Numerator n) = None
finish (SlashSeen n) = None
finish (Denominator n d) = Some (n, d.number)

-- only a scanner in the denominator has an answer at the end
pub finish_none : (s : Scanner) → ((n : ℕ) (d : Part) → s ≡ Denominator n d → ⊥) → finish s ≡ None
finish_none Start h = refl
finish_none (Numerator n) h = refl
finish_none (SlashSeen n) h = refl
finish_none (Denominator n d) h = absurd (h n d refl)

-- what f answers, unless the step was refused
abbrev unless_refused : (Scanner → Option (ℕ × ℕ)) → Option Scanner → Option (ℕ × ℕ)
unless_refused f None = None
unless_refused f (Some s) = f s

-- the answer of a scanner that takes the rest of the word
abbrev pub run : Scanner → List ℕ → Option (ℕ × ℕ)
run s [] = finish s
run s (c ∷ cs) = unless_refused (λ t. run t cs) (step_of s c)

-- the run from a place of the word on goes by the step at that place
pub run_more : (s : Scanner) (w : List ℕ) (i : ℕ) → i < length w → run s (drop i w) ≡ unless_refused (λ t. run t (drop (i + 1) w)) (step_of s (get_or w i 0))
run_more s w i h = at_drop_more (run s) w i 0 h

-- the run from the end of the word on is at its end
pub run_ends : (s : Scanner) (w : List ℕ) (i : ℕ) → length w ≤ i → run s (drop i w) ≡ finish s
run_ends s w i h = at_drop_all (run s) w i h

-- ---- an answer has the form that it asks for

-- digits that a part may go on with, up to ten in all
record Rest (part : Part) (cs : List ℕ) : Type 0 where
  few : length cs ≤ 10 - part.digits
  digits : Digits cs

-- what the rest of a word is, where a scanner that takes it answers p
abbrev Means : Scanner → List ℕ → ℕ × ℕ → Type 0
Means Start cs p = PartsRead cs (Some p)
Means (Numerator n) cs p = (a : List ℕ) × ((b : List ℕ) × (Rest n a × Numeral b × (cs ≡ a ++ (47 ∷ b)) × (p ≡ (value_on n.number a, value b))))
Means (SlashSeen n) cs p = Numeral cs × (p ≡ (n, value cs))
Means (Denominator n d) cs p = Rest d cs × (p ≡ (n, value_on d.number cs))

-- an answer behind a test comes from the scanner that goes on, and the test held
allowed_answers : (t : Bool) (s : Scanner) (cs : List ℕ) (p : ℕ × ℕ) → unless_refused (λ s'. run s' cs) (allowed t s) ≡ Some p → (t ≡ true) × (run s cs ≡ Some p)
allowed_answers true s cs p h = (refl, h)
allowed_answers false s cs p h = grind arith

-- a digit before what a numerator of one digit goes on with makes a ratio word
start_more : (c : ℕ) (cs : List ℕ) (p : ℕ × ℕ) → is_digit c ≡ true → Means (Numerator (with_digit no_digit c)) cs p → Means Start (c ∷ cs) p
start_more c cs p e m =
    (c ∷ m.0, (m.1.0, (record { above = record { some = search rules; few = search rules; digits = search rules }; below = m.1.1.1; joined = search rules }, search rules)))

-- a slash ends the numerator before the denominator
slash_more : (n : Part) (c : ℕ) (cs : List ℕ) (p : ℕ × ℕ) → eqb c 47 ≡ true → Means (SlashSeen n.number) cs p → Means (Numerator n) (c ∷ cs) p
slash_more n c cs p e m = ([], (cs, (record { few = search rules; digits = tt }, m.0, search rules, m.1)))

-- a digit goes before what the numerator with that digit goes on with
digit_more : (n : Part) (c : ℕ) (cs : List ℕ) (p : ℕ × ℕ) → goes_on n c ≡ true → Means (Numerator (with_digit n c)) cs p → Means (Numerator n) (c ∷ cs) p
digit_more n c cs p e m =
    (c ∷ m.0, (m.1.0, (record { few = search rules; digits = search rules }, m.1.1.1, search rules, search rules)))

-- the rest of a word that a scanner answers has the form that the scanner asks for
from_run : (s : Scanner) (cs : List ℕ) (p : ℕ × ℕ) → run s cs ≡ Some p → Means s cs p
from_run Start [] p h = grind arith
from_run (Numerator n) [] p h = grind arith
from_run (SlashSeen n) [] p h = grind arith
from_run (Denominator n d) [] p h = search rules
from_run Start (c ∷ cs) p h =
    let next : Scanner = Numerator (with_digit no_digit c) in
    let more = allowed_answers (is_digit c) next cs p h in
    start_more c cs p more.0 (from_run next cs p more.1)
from_run (Numerator n) (c ∷ cs) p h =
    let next : Scanner = Numerator (with_digit n c) in
    elim (eqb c 47) as (λ t. eqb c 47 ≡ t → unless_refused (λ s. run s cs) (cond t (Some (SlashSeen n.number)) (allowed (goes_on n c) next)) ≡ Some p → Means (Numerator n) (c ∷ cs) p) [
      | true ↦ λ e g. slash_more n c cs p e (from_run (SlashSeen n.number) cs p g)
      | false ↦ λ _ g.
          let more = allowed_answers (goes_on n c) next cs p g in
          digit_more n c cs p more.0 (from_run next cs p more.1)
    ] refl h
from_run (SlashSeen n) (c ∷ cs) p h =
    let next : Scanner = Denominator n (with_digit no_digit c) in
    let more = allowed_answers (is_digit c) next cs p h in
    search (rules, from_run next cs p more.1)
from_run (Denominator n d) (c ∷ cs) p h =
    let next : Scanner = Denominator n (with_digit d c) in
    let more = allowed_answers (goes_on d c) next cs p h in
    search (rules, from_run next cs p more.1)

-- ---- what has the form is answered

-- behind one more digit the rest is that of the part with this digit
rest_more : (part : Part) (c : ℕ) (cs : List ℕ) → Rest part (c ∷ cs) → Rest (with_digit part c) cs
rest_more part c cs r = record { few = search rules; digits = r.digits.1 }

-- a numeral is what a part without a digit may go on with
rest_all : (cs : List ℕ) → Numeral cs → Rest no_digit cs
rest_all cs r = record { few = r.few; digits = r.digits }

-- a denominator goes on to the end of its digits
denominator_run : (n : ℕ) (d : Part) (cs : List ℕ) → Rest d cs → run (Denominator n d) cs ≡ Some (n, value_on d.number cs)
denominator_run n d [] r = refl
denominator_run n d (c ∷ cs) r = search (rules, denominator_run n (with_digit d c) cs (rest_more d c cs r))

-- behind the slash a numeral is the denominator
slash_run : (n : ℕ) (cs : List ℕ) → Numeral cs → run (SlashSeen n) cs ≡ Some (n, value cs)
slash_run n [] r = grind (arith, r.some)
slash_run n (c ∷ cs) r =
    search (rules, denominator_run n (with_digit no_digit c) cs (rest_more no_digit c cs (rest_all (c ∷ cs) r)))

-- a numerator goes on to the slash before a numeral
numerator_run : (n : Part) (a b : List ℕ) → Rest n a → Numeral b → run (Numerator n) (a ++ (47 ∷ b)) ≡ Some (value_on n.number a, value b)
numerator_run n [] b r s = slash_run n.number b s
numerator_run n (c ∷ a) b r s = search (rules, numerator_run (with_digit n c) a b (rest_more n c a r) s)

-- a ratio word is answered by the values of its numerals
start_run : (a b : List ℕ) → Numeral a → Numeral b → run Start (a ++ (47 ∷ b)) ≡ Some (value a, value b)
start_run [] b r s = grind (arith, r.some)
start_run (c ∷ a) b r s =
    search (rules, numerator_run (with_digit no_digit c) a b (rest_more no_digit c a (rest_all (c ∷ a) r)) s)

-- the answer of the scan is the one that the form of a ratio word gives
pub scan_reads : (w : List ℕ) (r : Option (ℕ × ℕ)) → run Start w ≡ r → PartsRead w r
scan_reads w None e = λ a b h. grind (arith, e, h.joined, start_run a b h.above h.below)
scan_reads w (Some p) e = from_run Start w p e
