use Rattle.std.proofs.Common.{◌≡◌, slice_get, Some, Ok, Err, sym, refl, ap, ◌∙◌, subst}
use Rattle.std.specs.Fn.{FnOnceReturnsAtMut}
use Rattle.std.proofs.lemmas.Result.{err_from_is_err_and}
use Rattle.draft.specs.Changes.{ToneChanged}
use Rattle.draft.specs.Held.{entered_tones}
use Rattle.draft.proofs.Changing.{changed_at}
use Rattle.draft.proofs.draft.Draft.change_tone.Goals as goal

pub returns-in_err-change : goal.returns-in_err-change
returns-in_err-change g c =
    let d = c.args.self.now in
    let gives = FnOnceReturnsAtMut g.F.FnOnce c.args.change in
    let read = ◌∙◌ {c = Some c.in_ok-changed.changed} (sym c.get.ensures) c.in_ok-changed.ensures.ok_part in
    let told = err_from_is_err_and c.from_residual-in_err-change.result c.from_residual-in_err-change.ensures.1 in
    record {
      changed = subst (ToneChanged gives d d c.args.tone) (sym (told.1 ∙ ap Err told.2))
          (changed_at gives d d c.args.tone _ _ c.change.result (Err c.in_err-change.field-0.0) read (record { shown = _; shows = refl; left = _; met = c.change.ensures; leaves = refl }) c.in_err-change.was refl);
    }

pub returns : goal.returns
returns g c =
    let read : slice_get (entered_tones c.args.self.now) c.args.tone ≡ Some c.in_ok-changed.changed = sym c.get.ensures ∙ c.in_ok-changed.ensures.ok_part in
    record {
      changed = changed_at (FnOnceReturnsAtMut g.F.FnOnce c.args.change) c.args.self.now _ c.args.tone _ _ c.change.result (Ok tt) read (record { shown = _; shows = refl; left = _; met = c.change.ensures; leaves = refl }) c.in_ok-change.was (c.replace.ensures.listed, refl);
    }
