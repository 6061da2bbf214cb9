-- The layer and number of each fault of a ratio.
use Rattle.std.specs.Prelude.{ℕ}
use Rattle.refusal.specs.declared.Layer.TheVariants.{Ratio}
use Rattle.refusal.specs.declared.Refusal.{Refusal}
use Rattle.ratio.specs.declared.fault.RatioFault.{RatioFault}
use Rattle.ratio.specs.declared.fault.RatioFault.TheVariants.{ZeroPart, PartTooLarge, PrimeLeft}

-- 6 for a part that is 0, 7 for one that is too large, 8 for a prime above 13
abbrev pub fault_number : RatioFault → ℕ
fault_number ZeroPart = 6
fault_number PartTooLarge = 7
fault_number PrimeLeft = 8

-- the fault as it is told of a word at a column
abbrev pub ratio_refusal : RatioFault → ℕ → Refusal
ratio_refusal f column = record { layer = Ratio; number = fault_number f; column = column }
