use Rattle.std.proofs.Common.{◌≡◌, ℕ, ◌+◌, ◌*◌, ◌^◌, ◌<◌, All, map, length, get_or, sym, refl, ap, ◌∙◌, subst, arith, rules}
use lib.ListN.{length-map}
use Rattle.std.proofs.Math.Seq.{map-set_same}
use Rattle.std.proofs.lemmas.List.{map-set, get_or-map}
use Rattle.std.proofs.lemmas.List.Elements.{All-from_recursion}
use Rattle.ratio.specs.Products.{product, primes}
use Rattle.ratio.specs.Factors.{Misses}
use Rattle.ratio.proofs.Multiplicities.{Apart, mapped, apart_none, apart_more, apart_all, prime_large}
use Rattle.ratio.proofs.entry.Factors.of.Goals as goal
use Rattle.ratio.proofs.entry.Factors.of.Goals.{After-from, After-map}

abbrev prime : ℕ × ℕ → ℕ
prime p = p.0

abbrev times : ℕ × ℕ → ℕ
times p = p.1

pub loop-prime-init : goal.loop-prime-init
loop-prime-init c =
    let is = mapped (λ p. (p, 0)) primes c.map-powers.result 0 (0, 0) c.map-powers.ensures.items.long (λ i h. search (rules, c.map-powers.ensures.items.at i 0 (0, 0) h)) in
    (ap (map prime) is, subst (λ ks. Apart c.args.number 0 ks c.args.number) (sym (ap (map times) is)) (apart_none c.args.number c.requires.0 c.requires.1))

-- the prime of this turn is the one at its place
turn : (c : After-from) → c.from.result ≡ get_or primes c.loop-prime.prime-index 0
turn c =
    let items = c.loop-prime.prime-items in
    let i = c.loop-prime.prime-index in
    c.from.ensures ∙ (sym (get_or-map prime items i (0, 0) 0 (omega (arith, c.loop-prime-test.true, length-map items prime, ap length c.loop-prime.invariant.0))) ∙ ap (λ ps. get_or ps i 0) c.loop-prime.invariant.0)

pub divided_out-requires : goal.divided_out-requires
divided_out-requires c = (
  c.loop-prime.invariant.1.some,
  c.loop-prime.invariant.1.small,
  subst (λ p. 1 < p) (sym (turn c)) (prime_large c.loop-prime.prime-index c.loop-prime-test.true),
)

pub loop-prime-preserved : goal.loop-prime-preserved
loop-prime-preserved c =
    let p = turn (goal.at.loop-prime-preserved c).After-from in
    let r = c.divided_out.result in
    let items = c.loop-prime.prime-items in
    let i = c.loop-prime.prime-index in (
      map-set_same prime items i _ (0, 0) refl ∙ c.loop-prime.invariant.0,
      subst (λ ks. Apart c.args.number (i + 1) ks r.1) (sym (map-set times items i _))
          (apart_more c.args.number i (map times items) c.loop-prime.rest r.0 r.1 c.loop-prime.invariant.1 c.loop-prime-test.true
          (subst (λ q. c.loop-prime.rest ≡ q ^ r.0 * r.1) p c.divided_out.ensures.parts)
          (subst (λ q. Misses q r.1) p c.divided_out.ensures.left)
          c.divided_out.ensures.few),
    )

-- the multiplicities by themselves
only_times : (c : After-map) → c.map.result ≡ map times c.loop-prime.prime-items
only_times c = mapped times c.loop-prime.prime-items c.map.result (0, 0) 0 (omega (arith, c.map.ensures.items.long)) (λ i h. search (rules, c.map.ensures.items.at i (0, 0) 0 (omega arith)))

pub invariant_of-result : goal.invariant_of-result
invariant_of-result c =
    let a = c.loop-prime.invariant.1 in
    record {
      few = subst (All (λ k. k < 32)) (sym (only_times c)) (All-from_recursion (λ k. k < 32) (map times c.loop-prime.prime-items) a.few);
      left = (apart_all c.args.number c.loop-prime.prime-index (map times c.loop-prime.prime-items) c.loop-prime.rest c.loop-prime-test.false a).left;
    }

pub returns : goal.returns
returns c =
    subst (λ ks. c.args.number ≡ product primes ks * c.loop-prime.rest) (sym (only_times (goal.at.returns c).After-map))
    (apart_all c.args.number c.loop-prime.prime-index (map times c.loop-prime.prime-items) c.loop-prime.rest c.loop-prime-test.false c.loop-prime.invariant.1).parts
