use Rattle.std.proofs.Common.{Some, None, rules}
use Rattle.ratio.proofs.Scans.{run_ends, scan_reads, finish_none}
use Rattle.ratio.proofs.word.read_parts.Goals as goal

pub returns-in-Denominator : goal.returns-in-Denominator
returns-in-Denominator c =
    record { form = scan_reads c.args.word.now (Some (c.in-Denominator.n, c.d.inside.number)) (search (rules, run_ends)) }

pub returns-in_default : goal.returns-in_default
returns-in_default c =
    let none = finish_none c.loop-byte.scanner c.in_default.not-Denominator in
    record { form = scan_reads c.args.word.now None (search (rules, run_ends, none)) }
