use Rattle.std.proofs.Common.{length}
use Rattle.places.specs.Listed.{listed}
use Rattle.command.proofs.Cutting.{Held}
use Rattle.command.proofs.word.first_words.Given as goal

abbrev pub invariant-loop-bytes : goal.invariant-loop-bytes
invariant-loop-bytes l =
    (goal.iterator-loop-bytes).can_next l.bytes-iterator × (goal.iterator-loop-bytes).is_finite l.bytes-iterator × Held l.line (length l.yielded) l.column (listed l.list)
