use Rattle.std.proofs.Common.{sym, ◌∙◌, arith}
use Rattle.std.proofs.lemmas.List.{set_past}
use Rattle.std.proofs.Math.Seq.{take-set-lt}
use Rattle.places.proofs.Taken.{taken, not_taken}
use Rattle.places.proofs.Places.replace.Goals as goal

pub returns-in_err-replaced-clause-listed : goal.returns-in_err-replaced-clause-listed
returns-in_err-replaced-clause-listed g c =
    let old = c.args.self.now in
    sym (set_past _ _ _ (not_taken old.table old.count c.args.place (sym c.get.ensures ∙ c.in_err-replaced.was)))

pub offset_bounds-self-place : goal.offset_bounds-self-place
offset_bounds-self-place g c =
    let old = c.args.self.now in
    omega (arith, old.few, taken old.table old.count c.args.place _ (sym c.get.ensures ∙ c.in_ok-replaced.was))

pub listed : goal.listed
listed g c =
    let old = c.args.self.now in
    omega (arith, old.few, old.all, taken old.table old.count c.args.place _ (sym c.get.ensures ∙ c.in_ok-replaced.was))

pub bounds-self-place : goal.bounds-self-place
bounds-self-place g c =
    let old = c.args.self.now in
    omega (arith, old.few, taken old.table old.count c.args.place _ (sym c.get.ensures ∙ c.in_ok-replaced.was))

pub returns-clause-listed : goal.returns-clause-listed
returns-clause-listed g c =
    let old = c.args.self.now in
    take-set-lt old.count old.table c.args.place c.args.item (taken old.table old.count c.args.place _ (sym c.get.ensures ∙ c.in_ok-replaced.was))
