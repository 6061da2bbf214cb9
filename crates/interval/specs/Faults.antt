-- The layer, number and column of each fault of a line.
use Rattle.refusal.specs.declared.Layer.TheVariants.{Text}
use Rattle.refusal.specs.declared.Refusal.{Refusal}
use Rattle.ratio.specs.Faults.{ratio_refusal}
use Rattle.interval.specs.declared.fault.LineFault.{LineFault}
use Rattle.interval.specs.declared.fault.LineFault.TheVariants.{TooLong, NoRatioWord, Entry}

-- a long line is told at its first byte too many, a fault of the word at its first byte
abbrev pub line_refusal : LineFault → Refusal
line_refusal TooLong = record { layer = Text; number = 2; column = 81 }
line_refusal NoRatioWord = record { layer = Text; number = 5; column = 1 }
line_refusal (Entry fault) = ratio_refusal fault 1
