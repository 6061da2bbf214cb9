use Rattle.std.proofs.Common.{◌≡◌, drop}
use Rattle.ratio.specs.declared.word.Scanner.TheVariants.{Start}
use Rattle.ratio.proofs.Scans.{run}
use Rattle.ratio.proofs.word.read_parts.Given as goal

abbrev pub invariant-loop-byte : goal.invariant-loop-byte
invariant-loop-byte l = run l.scanner (drop l.byte-index l.word) ≡ run Start l.word
