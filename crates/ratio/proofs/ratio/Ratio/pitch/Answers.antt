use Rattle.std.proofs.Common.{◌≡◌, ◌+◌, length, take, ℤ, ◌+ℤ◌, ◌*ℤ◌, w32, SFits}
use Rattle.std.proofs.lemmas.List.{length_push}
use Rattle.std.proofs.lemmas.Slice.Zip.{zip_turn}
use Rattle.ratio.specs.Pitches.{prime_pitches, sum_of_pitches}
use Rattle.ratio.proofs.Pitches.{held, sum_next}
use Rattle.ratio.proofs.ratio.Ratio.pitch.Goals as goal
use Rattle.ratio.proofs.ratio.Ratio.pitch.Goals.{After-from}

next : (c : After-from) (total : ℤ) → total ≡ sum_of_pitches (take (length c.loop-pitch.yielded) prime_pitches) c.args.self.now.exponents
    → let part : ℤ = held c.in-Some.pitch.now *ℤ held c.from.result in
    let sum : ℤ = total +ℤ held part in
    SFits w32 part × (SFits w32 sum × (held sum ≡ sum_of_pitches (take (length c.loop-pitch.yielded + 1) prime_pitches) c.args.self.now.exponents))
next c total before =
    let all : c.iter.result.rest.now ≡ prime_pitches = c.iter.ensures.rest in
    let turn = zip_turn prime_pitches c.args.self.now.exponents c.loop-pitch.yielded c.into_iter-pitch-iterator.result c.loop-pitch.pitch-iterator c.next.new.self _ (cc) (cc) c.loop-pitch.yielded_by _ c.in-Some.is c.next.ensures.steps in
    sum_next c.args.self.now _ total _ _ _ turn.0 before (turn.2 _) (turn.3 _) c.from.ensures

pub overflow_mul-total : goal.overflow_mul-total
overflow_mul-total c = (next (goal.at.overflow_mul-total c).After-from _ c.loop-pitch.invariant).0

pub overflow_add-total : goal.overflow_add-total
overflow_add-total c = (next (goal.at.overflow_add-total c).After-from _ c.loop-pitch.invariant).1.0

pub loop-pitch-preserved : goal.loop-pitch-preserved
loop-pitch-preserved c =
    let is = (next (goal.at.loop-pitch-preserved c).After-from _ c.loop-pitch.invariant).1.1 in
    simp length_push is
