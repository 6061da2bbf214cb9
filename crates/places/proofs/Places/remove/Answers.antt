use Rattle.std.proofs.Common.{◌+◌, ◌-◌, ◌≤◌, length, take, sym, ap, ◌∙◌, arith}
use Rattle.places.proofs.Taken.{taken, not_taken, remove_past, moved_down}
use Rattle.places.specs.Listed.{listed}
use Rattle.places.proofs.Places.remove.Goals as goal

pub returns-in_err-removed-clause-listed : goal.returns-in_err-removed-clause-listed
returns-in_err-removed-clause-listed g c =
    let old = c.args.self.now in
    sym (remove_past (listed old) c.args.place (not_taken old.table old.count c.args.place (sym c.get.ensures ∙ c.in_err-removed.was)))

pub copy_within-requires-clause-dest_in_bounds : goal.copy_within-requires-clause-dest_in_bounds
copy_within-requires-clause-dest_in_bounds g c =
    let old = c.args.self.now in
    let within = taken old.table old.count c.args.place _ (sym c.get.ensures ∙ c.in_ok-removed.was) in
    let fits : c.args.place + (old.count - (c.args.place + 1)) ≤ length old.table = omega (arith, old.few, old.all) in
    fits

pub overflow_add-place : goal.overflow_add-place
overflow_add-place g c =
    let old = c.args.self.now in
    omega (arith, old.few, g.N.fits, taken old.table old.count c.args.place _ (sym c.get.ensures ∙ c.in_ok-removed.was))

pub copy_within-requires-clause-start_le_end : goal.copy_within-requires-clause-start_le_end
copy_within-requires-clause-start_le_end g c =
    let old = c.args.self.now in
    omega (arith, taken old.table old.count c.args.place _ (sym c.get.ensures ∙ c.in_ok-removed.was))

pub returns-clause-listed : goal.returns-clause-listed
returns-clause-listed g c =
    let old = c.args.self.now in
    ap (take (old.count - 1)) c.copy_within.ensures.after ∙ moved_down old.table old.count c.args.place (taken old.table old.count c.args.place _ (sym c.get.ensures ∙ c.in_ok-removed.was)) (omega (arith, old.few, old.all))
