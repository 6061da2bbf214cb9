use Rattle.std.proofs.Common.{rules}
use Rattle.session.proofs.Pages.{then, as_text, refusal_pieces}
use Rattle.session.proofs.page.Page.refusal.Goals as goal

pub returns : goal.returns
returns c =
    let text = refusal_pieces c.args.refusal c.as_bytes.result.now c.from.result (search rules) (search rules) in
    let layer = then (then c.text.ensures.written c.text-2.ensures.written) c.text-3.ensures.written in
    let number = then (then layer c.number.ensures.written) c.text-4.ensures.written in
    record { written = as_text text (then (then number c.number-2.ensures.written) c.text-5.ensures.written) }
