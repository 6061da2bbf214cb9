-- The pitch of a ratio, in thousandths of a cent.
use Rattle.std.specs.Prelude.{List, [], ◌∷◌, ℤ, pos, ◌+ℤ◌, ◌*ℤ◌}
use Rattle.ratio.specs.declared.ratio.Ratio.{Ratio}

-- the pitch of each prime
abbrev pub prime_pitches : List ℤ
prime_pitches = pos 1200000 ∷ (pos 1901955 ∷ (pos 2786314 ∷ (pos 3368826 ∷ (pos 4151318 ∷ (pos 4440528 ∷ [])))))

-- the sum of each pitch times the exponent at its place
abbrev pub sum_of_pitches : List ℤ → List ℤ → ℤ
sum_of_pitches [] es = pos 0
sum_of_pitches (p ∷ ps) [] = pos 0
sum_of_pitches (p ∷ ps) (e ∷ es) = (p *ℤ e) +ℤ sum_of_pitches ps es

-- the pitch of a ratio: each prime's as often as the ratio has it
abbrev pub ratio_pitch : Ratio → ℤ
ratio_pitch r = sum_of_pitches prime_pitches r.exponents
