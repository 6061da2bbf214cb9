use Rattle.std.proofs.Common.{map, ap}
use lib.ListN.{get_or-replicate}
use Rattle.draft.specs.Held.{noted, pair_place}
use Rattle.draft.proofs.Pairs.{place_within}
use Rattle.draft.proofs.draft.Draft.new.Goals as goal

pub returns : goal.returns
returns c = record {
  holds = record {
    tones = ap (map noted) c.empty.ensures;
    bounds = λ i j hi hj apart. get_or-replicate 496 (pair_place i j) 1073741824 0 (place_within i j hi hj apart);
  };
}
