-- The ratio that a line names.
use Rattle.std.specs.Prelude.{ℕ, ◌<◌, ◌≤◌, List, length, Some, None, Ok, Err, Result}
use Rattle.ratio.specs.declared.ratio.Ratio.{Ratio}
use Rattle.ratio.specs.declared.fault.RatioFault.{RatioFault}
use Rattle.ratio.specs.Entry.{Entered}
use Rattle.ratio.specs.Words.{PartsRead}
use Rattle.interval.specs.declared.fault.LineFault.{LineFault}
use Rattle.interval.specs.declared.fault.LineFault.TheVariants.{TooLong, NoRatioWord, Entry}

-- the line is a ratio word, and entering its two numbers gives r
pub record WordEntered (line : List ℕ) (r : Result Ratio RatioFault) : Type 0 where
  pub parts : ℕ × ℕ
  pub short : length line ≤ 80
  pub read : PartsRead line (Some parts)
  pub entered : Entered parts.0 parts.1 r

-- what a line names: its ratio, or the first fault that holds
abbrev pub Named : List ℕ → Result Ratio LineFault → Type 0
Named line (Ok ratio) = WordEntered line (Ok ratio)
Named line (Err TooLong) = 80 < length line
Named line (Err NoRatioWord) = (length line ≤ 80) × PartsRead line None
Named line (Err (Entry fault)) = WordEntered line (Err fault)
