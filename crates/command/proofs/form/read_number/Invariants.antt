use Rattle.std.proofs.Common.{◌≡◌, ◌^◌, ◌<◌, drop}
use Rattle.command.proofs.Numbers.{read_on}
use Rattle.command.proofs.form.read_number.Given as goal

abbrev pub invariant-loop-byte : goal.invariant-loop-byte
invariant-loop-byte l = (read_on l.number (drop l.byte-index l.word) ≡ read_on 0 l.word) × (l.number < 10 ^ l.byte-index)
