use Rattle.std.proofs.Common.{◌≡◌, ℕ, ◌*◌, ◌^◌, ◌<◌, ◌≤◌, length, get_or, pos, nat_abs, sym, ap, ◌∙◌, subst, mul-one, arith, w8, to_z, of_z, rules}
use native.Mathlib.Nat.{pow-zero}
use borrow.Author.Differences.{up}
use Rattle.std.specs.Int.{FitsUnsignedBits}
use Rattle.std.proofs.lemmas.List.{length_push}
use Rattle.std.proofs.lemmas.Slice.Zip.{zip_turn}
use Rattle.ratio.specs.Products.{primes}
use Rattle.ratio.proofs.Terms.{front_more, power_fits, small_exponent, held, up_counted, up_none}
use Rattle.ratio.proofs.ratio.Ratio.numerator.Goals as goal
use Rattle.ratio.proofs.ratio.Ratio.numerator.Goals.{After-try_from}

-- the prime and the exponent of this turn are those at its place
record Turn (c : After-try_from) : Type 0 where
  place : length c.loop-prime.yielded < 6
  prime : c.in-Some.prime.now ≡ get_or primes (length c.loop-prime.yielded) 0
  exponent : to_z w8 (of_z w8 c.in-Some.exponent.now) ≡ get_or c.args.self.now.exponents (length c.loop-prime.yielded) (pos 0)

turn : (c : After-try_from) → Turn c
turn c =
    let es = c.args.self.now.exponents in
    let t = zip_turn primes es c.loop-prime.yielded c.into_iter-prime-iterator.result c.loop-prime.prime-iterator c.next.new.self _ (cc) (cc) c.loop-prime.yielded_by _ c.in-Some.is c.next.ensures.steps in
    let e = t.3 (pos 0) in
    record { place = t.0; prime = t.2 0; exponent = ap (λ z. to_z w8 (of_z w8 z)) e ∙ held _ (small_exponent c.args.self.now (length c.loop-prime.yielded) (pos 0) t.0) }

-- the power that is multiplied in
power : (c : After-try_from) (times : ℕ)
    → FitsUnsignedBits 32 (to_z w8 (of_z w8 c.in-Some.exponent.now)) × (times ≡ nat_abs (to_z w8 (of_z w8 c.in-Some.exponent.now)))
    → c.in-Some.prime.now ^ times ≡ get_or primes (length c.loop-prime.yielded) 0 ^ up (get_or c.args.self.now.exponents (length c.loop-prime.yielded) (pos 0))
power c times h =
    let t = turn c in
    let is = h.1 ∙ (ap nat_abs t.exponent ∙ up_counted _ (subst (FitsUnsignedBits 32) t.exponent h.0)) in
    ap (λ p. p ^ times) t.prime ∙ ap (λ k. get_or primes (length c.loop-prime.yielded) 0 ^ k) is

pub pow-product-requires : goal.pow-product-requires
pow-product-requires c =
    let a = (goal.at.pow-product-requires c).After-try_from in
    let r = c.args.self.now in
    let fits = (power_fits r.exponents r.six (length c.loop-prime.yielded) (turn a).place 4294967295 r.numerator_fits).0 in
    omega (arith, power a c.in-Ok.times c.in-Ok.ensures)

pub overflow_mul-product : goal.overflow_mul-product
overflow_mul-product c =
    let a = (goal.at.overflow_mul-product c).After-try_from in
    let r = c.args.self.now in
    let fits = (power_fits r.exponents r.six (length c.loop-prime.yielded) (turn a).place 4294967295 r.numerator_fits).1 in
    let whole : c.loop-prime.product * c.pow-product.result ≤ 4294967295 = rw (c.loop-prime.invariant, c.pow-product.ensures, power a c.in-Ok.times c.in-Ok.ensures) fits in
    search rules

pub loop-prime-preserved-then-times-gt0 : goal.loop-prime-preserved-then-times-gt0
loop-prime-preserved-then-times-gt0 c =
    let a = (goal.at.loop-prime-preserved-then-times-gt0 c).After-try_from in
    let r = c.args.self.now in
    simp length_push (cc (c.loop-prime.invariant, c.pow-product.ensures, power a c.in-Ok.times c.in-Ok.ensures, front_more r.exponents r.six (length c.loop-prime.yielded) (turn a).place))

pub loop-prime-preserved-else-times-gt0 : goal.loop-prime-preserved-else-times-gt0
loop-prime-preserved-else-times-gt0 c =
    let a = (goal.at.loop-prime-preserved-else-times-gt0 c).After-try_from in
    let r = c.args.self.now in
    let none : c.in-Ok.times ≡ 0 = omega (arith, c.if-times-gt0.false) in
    let one = sym (power a c.in-Ok.times c.in-Ok.ensures) ∙ (ap (λ k. c.in-Some.prime.now ^ k) none ∙ pow-zero c.in-Some.prime.now) in
    simp length_push (cc (c.loop-prime.invariant, one, front_more r.exponents r.six (length c.loop-prime.yielded) (turn a).place, mul-one c.loop-prime.product))

pub loop-prime-preserved : goal.loop-prime-preserved
loop-prime-preserved c =
    let a = (goal.at.loop-prime-preserved c).After-try_from in
    let r = c.args.self.now in
    let i = length c.loop-prime.yielded in
    let none = up_none _ (small_exponent r i (pos 0) (turn a).place) (λ h. c.in_default.ensures (subst (FitsUnsignedBits 32) (sym (turn a).exponent) h)) in
    let one = ap (λ k. get_or primes i 0 ^ k) none ∙ pow-zero (get_or primes i 0) in
    simp length_push (cc (c.loop-prime.invariant, one, front_more r.exponents r.six i (turn a).place, mul-one c.loop-prime.product))
