use Rattle.std.proofs.Common.{◌≡◌, ℕ, ◌<◌, ◌≤◌, map, length, get_or, ℤ, pos, ◌-ℤ◌, neg_ℤ, w8, to_z, of_z, sym, refl, ap, ◌∙◌, subst, arith, lit<, rules}
use Rattle.std.specs.Array.{list_steps}
use Rattle.std.proofs.lemmas.Iterator.Adapters.{serves_from_places}
use Rattle.std.proofs.lemmas.Iterator.Consumers.{YieldsList-from_shown}
use Rattle.ratio.specs.Products.{numerator, denominator}
use Rattle.ratio.proofs.Multiplicities.{mapped}
use Rattle.ratio.proofs.Terms.{turned, small_exponent, numerator_neg, denominator_neg}
use Rattle.ratio.proofs.ratio.Ratio.recip.Goals as goal
use Rattle.ratio.proofs.ratio.Ratio.recip.Goals.{After-map}

pub map-requires : goal.map-requires
map-requires c =
    let r = c.args.self.now in
    let all = YieldsList-from_shown list_steps (λ e. e) (λ es. es) (λ s t h. ap length h) (λ s e t h. h) r.exponents in
    let fits = λ (e : ℤ) (k : ℕ) (h : k < length r.exponents) (at : e ≡ get_or r.exponents k e). (turned e (rw at (small_exponent r k e (omega (arith, r.six))))).0 in
    (lit< tt, (lit< tt, (lit< tt, serves_from_places all (λ e q u. refl) (λ e k h at. search (rules, fits e k h at)))))

all_turned : (c : After-map) → c.map.result ≡ map neg_ℤ c.args.self.now.exponents
all_turned c = mapped neg_ℤ c.args.self.now.exponents c.map.result (pos 0) (pos 0) (omega (arith, c.map.ensures.items.long, c.args.self.now.six)) (λ i h.
    let e = get_or c.args.self.now.exponents i (pos 0) in
    let is : get_or c.map.result i (pos 0) ≡ to_z w8 (of_z w8 (pos 0 -ℤ to_z w8 (of_z w8 e))) = search (rules, c.map.ensures.items.at i (pos 0) (pos 0) (omega (arith, c.args.self.now.six))) in
    is ∙ (turned e (small_exponent c.args.self.now i (pos 0) (omega (arith, c.args.self.now.six)))).1)

-- It stands before the invariant, since a wrong body is told of at the first answer that fails.
pub returns : goal.returns
returns c = all_turned (goal.at.returns c).After-map

pub invariant_of-result : goal.invariant_of-result
invariant_of-result c =
    let r = c.args.self.now in
    let is = sym (all_turned (goal.at.invariant_of-result c).After-map) in
    record {
      six = omega (arith, c.map.ensures.items.long);
      numerator_fits = subst (λ es. numerator es ≤ 4294967295) is (subst (λ n. n ≤ 4294967295) (sym (numerator_neg r.exponents)) r.denominator_fits);
      denominator_fits = subst (λ es. denominator es ≤ 4294967295) is (subst (λ n. n ≤ 4294967295) (sym (denominator_neg r.exponents)) r.numerator_fits);
    }
