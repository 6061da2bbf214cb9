use Rattle.std.proofs.Common.{◌≡◌, ◌≤◌, sym, refl, ◌∙◌, subst, arith, rules}
use Rattle.std.proofs.lemmas.Iterator.{YieldsList-from_map}
use Rattle.std.proofs.lemmas.Iterator.Consumers.{YieldsList-at, sum_from_yields_List, fits_from_yields_list}
use Rattle.std.proofs.lemmas.Iterator.Adapters.{serves_from_places}
use Rattle.measure.specs.Weights.{weighted_distance}
use Rattle.measure.specs.Harmonic.{HarmonicDistance}
use Rattle.measure.specs.Laws.Bounded.{weighted_bounded}
use Rattle.measure.proofs.Harmonic.{harmonic, harmonic_once}
use Rattle.measure.proofs.Distances.{part, places, sum-parts, small_at, only_zero}
use Rattle.measure.proofs.weighted.WeightedPrimesMeasure.distance.Goals as goal

pub sum-requires-clause-can : goal.sum-requires-clause-can
sum-requires-clause-can c =
    let m = c.args.self.now in (
      (tt, (tt, tt)),
      serves_from_places (YieldsList-at c.map.ensures.source (places m.weights _ _ (cc) refl refl))
          (λ x q k. search rules) (λ x k h e. let small : x.0.now ≤ 1000000 = small_at m _ k (x.0.now, (x.1.0.now, x.1.1.now)) h e in search rules),
    )

pub sum-requires-clause-fits : goal.sum-requires-clause-fits
sum-requires-clause-fits c =
    let m = c.args.self.now in
    let a = c.args.a.now in
    let b = c.args.b.now in
    fits_from_yields_list c.map.result _ (YieldsList-from_map _ part (YieldsList-at c.map.ensures.source (places m.weights a.exponents b.exponents (cc) (cc) cc)) c.map.ensures.closure (λ x r q k. search rules))
    (omega (arith, sum-parts m.weights a.exponents b.exponents, weighted_bounded m.weights m.six m.allowed a b))

pub returns : goal.returns
returns c =
    let m = c.args.self.now in
    let a = c.args.a.now in
    let b = c.args.b.now in
    let value : c.sum.result ≡ weighted_distance m.weights a b =
    sum_from_yields_List c.map.result _ c.sum.ensures.ran (YieldsList-from_map _ part (YieldsList-at c.map.ensures.source (places m.weights a.exponents b.exponents (cc) (cc) cc)) c.map.ensures.closure (λ x r q k. search rules))
    ∙ sum-parts m.weights a.exponents b.exponents in
    record {
      value = value;
      separates = λ none. only_zero m a b (sym value ∙ none);
      harmonic = subst (HarmonicDistance m.weights a b) (sym value) (harmonic m.weights a b);
      only = λ g h. harmonic_once m.weights a b g h ∙ sym value;
    }
