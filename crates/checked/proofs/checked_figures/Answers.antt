use Rattle.std.proofs.Common.{refl}
use Rattle.checked.proofs.Rows.{all_hold}
use Rattle.checked.proofs.checked_figures.Goals as goal

pub returns : goal.returns
returns c = record { hold = all_hold; count = refl }
