use Rattle.std.proofs.Common.{◌≡◌, ℕ, true, false, cond, negsuc, nat_abs, ap, ◌∙◌, w64}
use lib.Signed.{le_z}
use Rattle.std.proofs.lemmas.Int.{to_z-of_z}
use Rattle.session.proofs.Pages.{then, as_text, offset_pieces, sign_by}
use Rattle.session.proofs.page.Page.offset.Goals as goal
use Rattle.session.proofs.page.Page.offset.Goals.{then-thousandths-leminus10, else-thousandths-leminus10}

pub returns : goal.returns
returns c =
    let n : ℕ = c.unsigned_abs-hundredths.result in
    let size : n ≡ nat_abs c.args.thousandths = c.unsigned_abs-hundredths.ensures.value ∙ ap nat_abs (to_z-of_z w64 c.args.thousandths c.ranges.thousandths) in
    let signed : c.if-thousandths-leminus10.sign ≡ cond (le_z c.args.thousandths (negsuc 9)) 45 43 = elim c.if-thousandths-leminus10.branch [
      | then-thousandths-leminus10 w ↦ sign_by c.args.thousandths true c.if-thousandths-leminus10.sign c.ranges.thousandths w.if-thousandths-leminus10.true w.sign-is
      | else-thousandths-leminus10 w ↦ sign_by c.args.thousandths false c.if-thousandths-leminus10.sign c.ranges.thousandths w.if-thousandths-leminus10.false w.sign-is
    ] in
    let text = offset_pieces c.args.thousandths c.if-thousandths-leminus10.sign n signed size in
    record { written = as_text text (then (then c.text.ensures.written c.number.ensures.written) c.text-2.ensures.written) }
