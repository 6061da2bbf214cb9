use Rattle.std.proofs.Common.{refl, Err, ap, ◌∙◌, rules}
use Rattle.std.proofs.lemmas.Bool.Decides.{not_from_Decides}
use Rattle.std.proofs.lemmas.Result.{err_from_is_err_and}
use Rattle.command.specs.Reading.{verb_of}
use Rattle.command.proofs.Cutting.{cut_at_spaces}
use Rattle.command.proofs.Lines.{name_of, behind, parted, given, begun, not_full, columns_placed}
use Rattle.command.proofs.command.Command.read.Goals as goal

pub returns-then-not-full-clause-read : goal.returns-then-not-full-clause-read
returns-then-not-full-clause-read c =
    let line = c.args.line.now in
    let ws = c.as_slice.result.now in
    let v = c.in_ok-verb.verb in
    let held = parted line ws (search rules) (search rules) in
    (v, (begun line (name_of ws) (behind ws) held v (search rules) c.in_ok-verb.ensures, not_full line (name_of ws) (behind ws) held v (not_from_Decides c.full.result c.full.ensures c.if-not-full.true)))

pub returns-in_err-step-clause-read : goal.returns-in_err-step-clause-read
returns-in_err-step-clause-read c =
    let line = c.args.line.now in
    let ws = c.as_slice.result.now in
    let g = given line c.in_ok-verb.verb ws (search rules) (search rules) (search rules) c.in_ok-verb.ensures (c.if-not-full.ensures.0 refl) in
    let p = err_from_is_err_and c.from_residual-in_err-step.result c.from_residual-in_err-step.ensures.1 in
    rw (p.1 ∙ ap Err p.2) (c.in_err-step.ensures.told line (name_of ws) g)

pub returns : goal.returns
returns c =
    let line = c.args.line.now in
    let ws = c.as_slice.result.now in
    let g = given line c.in_ok-verb.verb ws (search rules) (search rules) (search rules) c.in_ok-verb.ensures (c.if-not-full.ensures.0 refl) in
    let told = c.in_ok-step.ensures.told line (name_of ws) g in
    record { read = told; placed = rw c.of.ensures (columns_placed line (name_of ws) (behind ws) g.held (verb_of c.in_ok-step.field-0) told.1); cut = cut_at_spaces line }

pub returns-then-line-gt-LONGEST_LINE-clause-cut : goal.returns-then-line-gt-LONGEST_LINE-clause-cut
returns-then-line-gt-LONGEST_LINE-clause-cut c = cut_at_spaces c.args.line.now

pub returns-in_default-clause-cut : goal.returns-in_default-clause-cut
returns-in_default-clause-cut c = cut_at_spaces c.args.line.now

pub returns-in_err-verb-clause-cut : goal.returns-in_err-verb-clause-cut
returns-in_err-verb-clause-cut c = cut_at_spaces c.args.line.now

pub returns-then-not-full-clause-cut : goal.returns-then-not-full-clause-cut
returns-then-not-full-clause-cut c = cut_at_spaces c.args.line.now

pub returns-in_err-step-clause-cut : goal.returns-in_err-step-clause-cut
returns-in_err-step-clause-cut c = cut_at_spaces c.args.line.now
