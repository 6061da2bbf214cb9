use Rattle.std.proofs.Common.{◌≡◌, ℕ, map}
use Rattle.ratio.specs.Products.{primes}
use Rattle.ratio.proofs.Multiplicities.{Apart}
use Rattle.ratio.proofs.entry.Factors.of.Given as goal

abbrev pub invariant-loop-prime : goal.invariant-loop-prime
invariant-loop-prime l =
    (map (λ (p : ℕ × ℕ). p.0) l.prime-items ≡ primes) × Apart l.number l.prime-index (map (λ (p : ℕ × ℕ). p.1) l.prime-items) l.rest
