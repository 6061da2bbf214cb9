-- The steps of the scanner of ratio words. Only the scanner's own contracts cite them, and no public contract does: what
-- a word is read as stands in Words.
use Rattle.std.specs.Prelude.{ℕ, ◌+◌, ◌-◌, ◌*◌, Bool, cond, ◌&&◌, Some, None, Option, ◌==◌, nat_le, nat_lt}
use Rattle.ratio.specs.declared.word.Part.{Part}
use Rattle.ratio.specs.declared.word.Scanner.{Scanner}
use Rattle.ratio.specs.declared.word.Scanner.TheVariants.{Start, Numerator, SlashSeen, Denominator}

-- whether a byte is a digit
abbrev pub is_digit : ℕ → Bool
is_digit c = nat_le 48 c && nat_le c 57

-- a part before its first digit
abbrev pub no_digit : Part
no_digit = record { number = 0; digits = 0 }

-- a part with one more digit
abbrev pub with_digit : Part → ℕ → Part
with_digit p c = record { number = p.number * 10 + (c - 48); digits = p.digits + 1 }

-- whether a byte goes on with a part: it is a digit, and the part has fewer than ten
abbrev pub goes_on : Part → ℕ → Bool
goes_on p c = is_digit c && nat_lt p.digits 10

-- the scanner s if a test holds, and else a refusal
abbrev pub allowed : Bool → Scanner → Option Scanner
allowed t s = cond t (Some s) None

-- the scanner behind one more byte, or nothing where it refuses the byte
abbrev pub step_of : Scanner → ℕ → Option Scanner
step_of Start c = allowed (is_digit c) (Numerator (with_digit no_digit c))
step_of (Numerator n) c = cond (c == 47) (Some (SlashSeen n.number)) (allowed (goes_on n c) (Numerator (with_digit n c)))
step_of (SlashSeen n) c = allowed (is_digit c) (Denominator n (with_digit no_digit c))
step_of (Denominator n d) c = allowed (goes_on d c) (Denominator n (with_digit d c))

-- the scanner s that a step left, if the step was not refused
abbrev pub stepped : Option Unit → Scanner → Option Scanner
stepped None s = None
stepped (Some u) s = Some s
