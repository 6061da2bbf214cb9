use Rattle.std.proofs.Common.{◌≡◌}
use Rattle.ratio.specs.Parts.{unison}
use Rattle.measure.specs.Weights.{weighted_distance}
use Rattle.measure.proofs.Harmonic.{additive, disharmonic, sum_of_parts}
use Rattle.measure.proofs.weighted.WeightedPrimesMeasure.disharmonicity.Goals as goal

pub returns : goal.returns
returns c =
    let ws = c.args.self.now.weights in
    let a = c.args.a.now in
    let value : c.distance.result ≡ weighted_distance ws unison a = cc in
    record {
      value = value;
      parts = sum_of_parts ws a.exponents c.distance.result a.six (cc (value, disharmonic ws a));
      additive = additive ws;
    }
