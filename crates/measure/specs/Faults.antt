-- The layer and number of the fault of weights.
use Rattle.refusal.specs.declared.Layer.TheVariants.{Draft}
use Rattle.refusal.specs.declared.Refusal.{Refusal}
use Rattle.measure.specs.declared.fault.WeightFault.{WeightFault}
use Rattle.measure.specs.declared.fault.WeightFault.TheVariants.{OutOfLimits}

-- number 9 of the draft, of no line
abbrev pub weight_refusal : WeightFault → Refusal
weight_refusal OutOfLimits = record { layer = Draft; number = 9; column = 0 }
