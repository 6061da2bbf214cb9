use Rattle.session.proofs.Pages.{then, as_text}
use Rattle.session.proofs.Scaling.{heading_pieces}
use Rattle.session.proofs.page.Page.heading.Goals as goal

pub returns : goal.returns
returns c =
    let cost = then (then c.text.ensures.written c.number.ensures.written) c.text-2.ensures.written in
    record { written = as_text (heading_pieces c.args.settled) (then (then cost c.number-2.ensures.written) c.text-3.ensures.written) }
