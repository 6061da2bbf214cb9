-- The layer, number and column of each fault of a line's text.
use Rattle.refusal.specs.declared.Layer.TheVariants.{Text}
use Rattle.refusal.specs.declared.Refusal.{Refusal}
use Rattle.command.specs.declared.fault.TextFault.{TextFault}
use Rattle.command.specs.declared.fault.TextFault.TheVariants.{TooLong, NoCommand, WrongWords, NoForm}

-- a long line is told at its first byte too many, a word without its form at its own column, and all else at the line's start
abbrev pub text_refusal : TextFault → Refusal
text_refusal TooLong = record { layer = Text; number = 2; column = 81 }
text_refusal NoCommand = record { layer = Text; number = 3; column = 1 }
text_refusal WrongWords = record { layer = Text; number = 4; column = 1 }
text_refusal (NoForm column) = record { layer = Text; number = 5; column = column }
