use Rattle.std.proofs.Common.{rules}
use Rattle.session.proofs.Pages.{then, as_text, ratio_pieces}
use Rattle.session.proofs.page.Page.ratio.Goals as goal

pub returns : goal.returns
returns c =
    let text = ratio_pieces c.args.ratio.now c.from.result c.from-2.result (search rules) (search rules) in
    record { written = as_text text (then (then c.number.ensures.written c.text.ensures.written) c.number-2.ensures.written) }
