use Rattle.std.proofs.Common.{Err, sym, refl, ap, ◌∙◌, subst}
use Rattle.std.proofs.lemmas.Result.{err_from_is_err_and}
use Rattle.std.proofs.lemmas.Bool.{false≢true}
use Rattle.draft.proofs.Holding.{held_book}
use Rattle.draft.specs.Held.{book_of}
use Rattle.settling.proofs.Runs.{by_entry, by_settling}
use Rattle.settling.specs.Costings.{total}
use Rattle.settling.specs.Run.{Stepped}
use Rattle.settling.specs.declared.step.Answer.TheVariants.{Entered as EnteredAnswer, Settled as SettledAnswer}
use Rattle.session.specs.Answers.{barlow, replied}
use Rattle.session.proofs.Obeying.{obeyed, unsettled}
use Rattle.session.proofs.session.Session.obey.Goals as goal

pub returns-in_err-put-in-Enter : goal.returns-in_err-put-in-Enter
returns-in_err-put-in-Enter c =
    let p = err_from_is_err_and c.from_residual-in_err-put-in-Enter.result c.from_residual-in_err-put-in-Enter.ensures.1 in
    let by = by_entry barlow total 33 c.in_ok-call.field-0.step c.in-Enter.call c.in-Enter.is c.args.self.now.draft c.put.new.self c.put.result c.args.self.now.sheet c.put.ensures.by_book in
    let same = p.1 ∙ ap Err p.2 ∙ sym (ap (λ x. replied (EnteredAnswer x)) c.in_err-put-in-Enter.was) in
    record { obeyed = obeyed c.args.read c.in_ok-call.field-0 c.in_ok-call.was c.args.self.now _ (EnteredAnswer c.put.result) _ by same (λ e. (c.in_err-put-in-Enter.ensures.by_book.unchanged refl, refl)) }

pub returns-in_err-settle-in-Settle : goal.returns-in_err-settle-in-Settle
returns-in_err-settle-in-Settle c =
    let d = c.args.self.now.draft in
    let p = err_from_is_err_and c.from_residual-in_err-settle-in-Settle.result c.from_residual-in_err-settle-in-Settle.ensures.1 in
    let by = subst (λ d. Stepped barlow total 33 c.in_ok-call.field-0.step c.args.self.now.draft d (SettledAnswer c.settle.result) c.args.self.now.sheet c.settle.new.self.sheet) (sym c.settle.ensures.draft) (by_settling barlow total 33 c.in_ok-call.field-0.step c.in-Settle.allowance c.in-Settle.is d c.settle.result c.args.self.now.sheet c.settle.new.self.sheet c.settle.ensures.settles) in
    let same = p.1 ∙ ap Err p.2 ∙ sym (ap (λ x. replied (SettledAnswer x)) c.in_err-settle-in-Settle.was) in
    let kept = unsettled (book_of d) c.in-Settle.allowance c.in_err-settle-in-Settle.field-0.0 c.args.self.now.sheet c.settle.new.self.sheet (c.in_err-settle-in-Settle.ensures.settles (book_of d) (held_book d)) in
    record { obeyed = obeyed c.args.read c.in_ok-call.field-0 c.in_ok-call.was c.args.self.now _ (SettledAnswer c.settle.result) _ by same (λ e. (c.settle.ensures.draft, kept)) }

pub returns-in_ok-put-in-Enter : goal.returns-in_ok-put-in-Enter
returns-in_ok-put-in-Enter c =
    let by = by_entry barlow total 33 c.in_ok-call.field-0.step c.in-Enter.call c.in-Enter.is c.args.self.now.draft c.put.new.self c.put.result c.args.self.now.sheet c.put.ensures.by_book in
    let same = sym (ap (λ x. replied (EnteredAnswer x)) c.in_ok-put-in-Enter.was) in
    record { obeyed = obeyed c.args.read c.in_ok-call.field-0 c.in_ok-call.was c.args.self.now _ (EnteredAnswer c.put.result) _ by same (λ e. absurd (false≢true e)) }

pub returns-in_ok-settle-in-Settle : goal.returns-in_ok-settle-in-Settle
returns-in_ok-settle-in-Settle c =
    let by = subst (λ d. Stepped barlow total 33 c.in_ok-call.field-0.step c.args.self.now.draft d (SettledAnswer c.settle.result) c.args.self.now.sheet c.settle.new.self.sheet) (sym c.settle.ensures.draft) (by_settling barlow total 33 c.in_ok-call.field-0.step c.in-Settle.allowance c.in-Settle.is c.args.self.now.draft c.settle.result c.args.self.now.sheet c.settle.new.self.sheet c.settle.ensures.settles) in
    let same = sym (ap (λ x. replied (SettledAnswer x)) c.in_ok-settle-in-Settle.was) in
    record { obeyed = obeyed c.args.read c.in_ok-call.field-0 c.in_ok-call.was c.args.self.now _ (SettledAnswer c.settle.result) _ by same (λ e. absurd (false≢true e)) }
