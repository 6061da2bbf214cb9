-- The layer and number of each fault of a settling.
use Rattle.std.specs.Prelude.{ℕ}
use Rattle.refusal.specs.declared.Layer.TheVariants.{Draft, Search}
use Rattle.refusal.specs.declared.Refusal.{Refusal}
use Rattle.settling.specs.declared.fault.SearchFault.{SearchFault}
use Rattle.settling.specs.declared.fault.SearchFault.TheVariants.{OutOfLimits, ShortStack, NoTone, Spent, NoScale}

-- the fault as it is told at a column
abbrev pub search_refusal : SearchFault → ℕ → Refusal
search_refusal OutOfLimits column = record { layer = Draft; number = 9; column = column }
search_refusal ShortStack column = record { layer = Search; number = 11; column = column }
search_refusal NoTone column = record { layer = Search; number = 24; column = column }
search_refusal Spent column = record { layer = Search; number = 25; column = column }
search_refusal (NoScale trials) column = record { layer = Search; number = 26; column = column }
