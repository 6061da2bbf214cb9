use Rattle.std.proofs.lemmas.Fmt.{decimal_digit}
use Rattle.session.proofs.page.Page.number.Goals as goal

pub returns-then-number-lt10 : goal.returns-then-number-lt10
returns-then-number-lt10 c = record { written = rw (decimal_digit c.args.number c.if-number-lt10.true) c.text.ensures.written }
