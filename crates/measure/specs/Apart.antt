-- How far apart two whole numbers are, and two pitches; distances that are blind to octaves.
use Rattle.std.specs.Prelude.{ℕ, ℤ, ◌-ℤ◌, unsigned_abs}
use Rattle.ratio.specs.Parts.{octaveless}
use Rattle.ratio.specs.Pitches.{ratio_pitch}
use Rattle.ratio.specs.declared.ratio.Ratio.{Ratio}

-- the size of their difference
abbrev pub apart : ℤ → ℤ → ℕ
apart x y = unsigned_abs (x -ℤ y)

-- how far apart the pitches of two ratios are
abbrev pub pitch_gap : Ratio → Ratio → ℕ
pitch_gap a b = apart (ratio_pitch a) (ratio_pitch b)

-- the distance below, of the two ratios with all factors 2 taken out
abbrev pub octave_blind : (Ratio → Ratio → ℕ) → Ratio → Ratio → ℕ
octave_blind below a b = below (octaveless a) (octaveless b)
