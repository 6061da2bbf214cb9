use Rattle.std.proofs.Common.{rules, ◌≡◌, ◌-ℤ◌, w64, to_z, of_z}
use Rattle.ratio.specs.Pitches.{ratio_pitch}
use Rattle.session.proofs.Pages.{then, as_text}
use Rattle.session.proofs.Scaling.{line_pieces, line_short}
use Rattle.session.proofs.page.Page.tone.Goals as goal

pub returns : goal.returns
returns c =
    let above : to_z w64 (of_z w64 (to_z w64 (of_z w64 c.from.result) -ℤ to_z w64 (of_z w64 c.from-2.result))) ≡ ratio_pitch c.args.ratio.now -ℤ c.args.pitch = search rules in
    record { written = as_text (line_pieces c.args.ratio.now c.args.pitch _ above) (then (then (then c.ratio.ensures.written c.text.ensures.written) c.offset.ensures.written) c.text-2.ensures.written); short = line_short c.args.ratio.now c.args.pitch (search rules) }
