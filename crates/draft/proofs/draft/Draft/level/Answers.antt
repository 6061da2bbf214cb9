use Rattle.std.proofs.Common.{◌∙◌}
use lib.ListN.{get_or-replicate}
use Rattle.draft.specs.Held.{pair_place}
use Rattle.draft.specs.declared.call.Call.TheVariants.{Level}
use Rattle.draft.proofs.Going.{taken_by}
use Rattle.draft.proofs.Pairs.{place_within}
use Rattle.draft.proofs.Refusals.{level_taken}
use Rattle.draft.proofs.draft.Draft.level.Goals as goal

pub returns : goal.returns
returns c =
    let held = c.in_ok-bound.ensures.cases in
    record {
      by_book = taken_by c.args.self.now _ (Level c.args.bound) (λ b h. level_taken b c.args.bound held.1) (λ b h. record {
        tones = h.tones;
        bounds = λ i j hi hj apart. get_or-replicate 496 (pair_place i j) c.in_ok-bound.bound 0 (place_within i j hi hj apart) ∙ held.0;
      });
    }
