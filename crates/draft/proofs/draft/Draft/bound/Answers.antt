use Rattle.std.proofs.Common.{cond, get_or, set, ap, ◌∙◌}
use Rattle.draft.specs.Book.{same_pair}
use Rattle.draft.specs.Held.{pair_place}
use Rattle.draft.specs.declared.call.Call.TheVariants.{Bound}
use Rattle.draft.proofs.Going.{taken_by}
use Rattle.draft.proofs.Pairs.{bound_written}
use Rattle.draft.proofs.Refusals.{bound_within}
use Rattle.draft.proofs.draft.Draft.bound.Goals as goal

pub returns : goal.returns
returns c =
    let d = c.args.self.now in
    let t = c.args.tone in
    let u = c.args.other in
    let x = c.args.bound in
    let held = c.in_ok-bound.ensures.cases in
    let place = c.in_ok-place.ensures in
    record {
      by_book = taken_by d _ (Bound t u x) (λ b h. bound_within b t u x held.1 ∙ (place.by_book b h).0) (λ b h. record {
        tones = h.tones;
        bounds = λ i j hi hj apart.
            (λ k. get_or (set d.bounds ((place.by_book b h).1 k) (held.0 k)) (pair_place i j) 0)
            ∙ (bound_written d.bounds t u x i j d.pairs place.apart.0 place.apart.1 place.apart.2 hi hj apart ∙ ap (cond (same_pair t u i j) x) (h.bounds i j hi hj apart));
      });
    }
