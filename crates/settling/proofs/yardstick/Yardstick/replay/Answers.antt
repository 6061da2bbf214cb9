use Rattle.std.proofs.Common.{length, arith}
use borrow.Author.Rules.{scaled_Fits}
use Rattle.settling.specs.Posed.{meant}
use Rattle.settling.proofs.Runs.{all_taken, step_there, place_there, begun_more, begun_all, sound_run, graefs_run}
use Rattle.settling.proofs.yardstick.Yardstick.replay.Goals as goal

pub offset_bounds-entries-number : goal.offset_bounds-entries-number
offset_bounds-entries-number g c =
    let inside = place_there c.args.steps.now c.args.entries.now c.min-count.ensures c.loop-number-test.true in search (scaled_Fits, inside)

pub loop-number-preserved : goal.loop-number-preserved
loop-number-preserved g c =
    let steps = c.args.steps.now in
    let entries = c.args.entries.now in
    let least = c.min-count.ensures in
    let next = c.loop-number-test.true in
    begun_more (g.M.Measure.dist c.args.self.now.measure.now) (meant g.C.Costing) (length c.args.stack.now) _ c.take_step-answer.result c.loop-number.auto.stack (step_there steps entries least) next (omega (arith, place_there steps entries least next, c.loop-number.auto.entries)) c.loop-number.invariant c.take_step-answer.ensures.stepped

pub returns : goal.returns
returns g c =
    let dist = g.M.Measure.dist c.args.self.now.measure.now in
    let measured = g.met.M.Measure in
    let least = c.min-count.ensures in
    record {
      replayed = begun_all dist (meant g.C.Costing) (length c.args.stack.now) (omega (arith, all_taken c.args.steps.now c.args.entries.now least, c.loop-number.auto.number-end, c.loop-number-test.false)) c.loop-number.invariant;
      sound = sound_run;
      in_graefs_words = graefs_run dist (measured.both c.args.self.now.measure.now) (measured.bounded c.args.self.now.measure.now);
    }
