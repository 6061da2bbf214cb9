-- The line that tells what a ratio is worth.
use Rattle.std.specs.Prelude.{ℕ, ◌+◌, ◌*◌, ◌/◌, ◌<◌, ◌≤◌, List, ◌++◌, codes, decimal}
use Rattle.ratio.specs.declared.ratio.Ratio.{Ratio}
use Rattle.ratio.specs.Parts.{unison}
use Rattle.ratio.specs.Pitches.{ratio_pitch}
use Rattle.ratio.specs.Printing.{ratio_text}
use Rattle.measure.specs.Weights.{barlow_weights, euler_weights, weighted_distance}
use Rattle.lines.specs.Decimals.{with_decimals, signed_decimals}

-- units of 1/30,030 in hundredths of a whole, rounded, halves up
abbrev pub hundredths : ℕ → ℕ
hundredths units = (100 * units + 15015) / 30030

-- h hundredths are nearest to that many units: less than half a hundredth above them, or half a one or less below
pub record Nearest (units h : ℕ) : Type 0 where
  pub not_above : 30030 * h ≤ 100 * units + 15015
  pub not_below : 100 * units < 30030 * h + 15015

-- ratio, cents with three decimals, Barlow's disharmonicity with two, and Euler's
abbrev pub interval_text : Ratio → List ℕ
interval_text r =
    ratio_text r ++ (codes " " ++ (signed_decimals 3 (ratio_pitch r) ++ (codes " "
    ++ (with_decimals 2 (hundredths (weighted_distance barlow_weights unison r)) ++ (codes " " ++ decimal (weighted_distance euler_weights unison r))))))
