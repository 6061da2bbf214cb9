use Rattle.std.proofs.Common.{◌≡◌, length, take}
use Rattle.ratio.specs.Pitches.{prime_pitches, sum_of_pitches}
use Rattle.ratio.proofs.ratio.Ratio.pitch.Given as goal

abbrev pub invariant-loop-pitch : goal.invariant-loop-pitch
invariant-loop-pitch l = l.total ≡ sum_of_pitches (take (length l.yielded) prime_pitches) l.self.exponents
