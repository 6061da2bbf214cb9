use Rattle.std.proofs.Common.{◌≡◌, length}
use Rattle.bench.proofs.converse.Given as goal

abbrev pub invariant-loop-byte : goal.invariant-loop-byte
invariant-loop-byte l = length l.answer ≡ 1280

abbrev pub invariant-loop : goal.invariant-loop
invariant-loop l = (length l.answer ≡ 1280) × (length l.chunk ≡ 4096)
