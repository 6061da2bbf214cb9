use Rattle.std.proofs.Common.{◌≡◌, map, length, take}
use borrow.Author.Differences.{up}
use Rattle.ratio.specs.Products.{primes, product}
use Rattle.ratio.proofs.ratio.Ratio.numerator.Given as goal

abbrev pub invariant-loop-prime : goal.invariant-loop-prime
invariant-loop-prime l = l.product ≡ product (take (length l.yielded) primes) (take (length l.yielded) (map up l.self.exponents))
