use Rattle.std.proofs.Common.{◌≡◌, ℕ, ◌+◌, ◌<◌, ◌≤◌, false, length, take, sym, refl, ap, ◌∙◌, arith, rules}
use Rattle.std.proofs.lemmas.List.{length_push, length-take-le, length-set}
use Rattle.std.proofs.lemmas.Result.{MatchResult-from_err}
use Rattle.costing.specs.Stacks.{room}
use Rattle.costing.proofs.Stacked.{taken_put}
use Rattle.draft.specs.Book.{Book}
use Rattle.draft.specs.Held.{Holds}
use Rattle.settling.specs.Explore.{beaten}
use Rattle.settling.specs.Posed.{problem, meant}
use Rattle.settling.specs.Searching.{ratios, seen}
use Rattle.settling.proofs.Descent.{there, beaten_some, beaten_none, went_beaten, went_end, trying_all, spent_now, trying_broken, spent_child, trying_on, many_laid, laid_before, laid_at, bound_read, bound_some, few_tones, written_on, written_all, on_top, cost_on, went_of, overspent_of}
use Rattle.settling.proofs.Rows.{paired_over, paired_within, row_some, row_none, row_end}
use Rattle.settling.proofs.search.Quest.+descend.Goals as goal
use Rattle.settling.proofs.search.Quest.+descend.Goals.{in-Some+else-no_more, in_default}

pub returns-in_default-candidates : goal.returns-in_default-candidates
returns-in_default-candidates g t c =
    let cst = meant g.C.Costing in
    let k = c.args.k in
    let s = c.args.search.now in
    let cost = c.unwrap-cost.result in
    let unbeaten : (n : ℕ) → beaten cst (seen n s.best) cost ≡ false = λ n. elim c.match-search.branch [
      | in-Some+else-no_more w ↦ beaten_some cst cost w.in-Some.is n ∙ (sym w.no_more.ensures ∙ w.if-no_more.false)
      | in_default w ↦ beaten_none cst cost w.in_default.is n
    ] in
    let small : k ≤ length s.laid = omega (arith, c.requires.within_draft, few_tones c.args.self.now.draft.now, s.places) in
    let written = written_all s.laid k small c.loop-place.sheet c.loop-place.invariant.0 c.loop-place.auto.place-end (omega (arith, c.loop-place-test.false)) in
    record { searched = λ past v e. went_of (on_top c.top.ensures.0 c.unwrap-cost.ensures c.top.ensures.1 past v e) (went_end written refl refl refl refl unbeaten c.in_default-candidates.ensures.by_book c.requires.within_allowance c.requires.within_draft) }

pub loop-place-preserved : goal.loop-place-preserved
loop-place-preserved g t c =
    let done = c.loop-place.invariant in
    let small : c.args.k ≤ length c.args.search.now.laid = omega (arith, c.requires.within_draft, few_tones c.args.self.now.draft.now, c.args.search.now.places) in
    let room_left : c.loop-place.place < length c.loop-place.sheet = omega (arith, c.loop-place-test.true, length-take-le c.args.k c.args.search.now.laid small, done.1, c.args.search.now.places) in
    (written_on (take c.args.k c.args.search.now.laid) c.loop-place.sheet c.placed-item.result c.loop-place-test.true c.placed-item.is room_left done.0, length-set _ _ _ ∙ done.1)

-- It stands behind the answers above, since a wrong body is told of at the first answer that fails.
pub returns-then-no_more : goal.returns-then-no_more
returns-then-no_more g t c =
    let more = sym c.no_more.ensures ∙ c.if-no_more.true in
    record { searched = λ past v e. went_of (on_top c.top.ensures.0 c.unwrap-cost.ensures c.top.ensures.1 past v e) (went_beaten c.in-Some.is more c.requires.within_allowance) }

pub returns-then-search-self : goal.returns-then-search-self
returns-then-search-self g t c =
    let over = spent_now c.in-Some-candidates.ensures.by_book c.candidates.invariant c.candidates-test.true c.index-candidates-number.is c.if-search-self.true in
    record { searched = λ past v e. overspent_of (on_top c.top.ensures.0 c.unwrap-cost.ensures c.top.ensures.1 past v e) over }

pub candidates-preserved-in_default-bound_of : goal.candidates-preserved-in_default-bound_of
candidates-preserved-in_default-bound_of g t c =
    let few = there c.in-Some-candidates.ensures.by_book in
    let now = c.candidates.search in
    let listed = laid_before now.laid c.args.k (omega (arith, few.1, now.places)) c.loop-earlier-test.true in
    absurd (bound_some listed few.0 c.in_default-bound_of.ensures.by_book)

pub candidates-preserved-then-apart-bound : goal.candidates-preserved-then-apart-bound
candidates-preserved-then-apart-bound g t c =
    let dist = g.M.Measure.dist c.args.self.now.yardstick.now.measure.now in
    let cst = meant g.C.Costing in
    let k = c.args.k in
    let few = there c.in-Some-candidates.ensures.by_book in
    let now = c.candidates.search in
    let tried = c.candidates.invariant in
    let x = c.index-candidates-number.result in
    let e = c.loop-earlier.earlier in
    let small = few.1 in
    let long : k ≤ length now.laid = omega (arith, now.places) in
    let items = take k now.laid in
    let listed = laid_before now.laid k long c.loop-earlier-test.true in
    let y = c.laid-item.result.ratio in
    let inside : e < length (ratios items) = omega (arith, many_laid now.laid k long, listed) in
    let at = laid_at now.laid k long c.laid-item.result c.loop-earlier-test.true c.laid-item.is in
    let bound = bound_read listed few.0 c.in-Some-bound_of.ensures.by_book in
    let far : c.in-Some-bound_of.bound < c.distance-apart.result = omega (arith, c.if-apart-bound.true) in
    let within = tried.within in
    let left = c.if-search-self.false in
    trying_broken c.in-Some-candidates.ensures.by_book tried c.candidates-test.true c.index-candidates-number.is long refl refl refl refl (omega arith)
    (λ b h. c.loop-earlier.invariant b h ∙ row_none (problem dist b) cst k e x (ratios items) c.loop-earlier.sum y inside at (paired_over (problem dist b) cst e k y x c.loop-earlier.sum c.distance-apart.result c.in-Some-bound_of.bound c.distance-apart.ensures (bound b h) far))

pub loop-earlier-preserved : goal.loop-earlier-preserved
loop-earlier-preserved g t c =
    let dist = g.M.Measure.dist c.args.self.now.yardstick.now.measure.now in
    let cst = meant g.C.Costing in
    let k = c.args.k in
    let few = there c.in-Some-candidates.ensures.by_book in
    let now = c.candidates.search in
    let x = c.index-candidates-number.result in
    let e = c.loop-earlier.earlier in
    let long : k ≤ length now.laid = omega (arith, few.1, now.places) in
    let items = take k now.laid in
    let listed = laid_before now.laid k long c.loop-earlier-test.true in
    let y = c.laid-item.result.ratio in
    let inside : e < length (ratios items) = omega (arith, many_laid now.laid k long, listed) in
    let at = laid_at now.laid k long c.laid-item.result c.loop-earlier-test.true c.laid-item.is in
    let bound = bound_read listed few.0 c.in-Some-bound_of.ensures.by_book in
    let near : c.distance-apart.result ≤ c.in-Some-bound_of.bound = omega (arith, c.if-apart-bound.false) in
    λ b h.
    let pair = paired_within (problem dist b) cst e k y x c.loop-earlier.sum c.distance-apart.result c.in-Some-bound_of.bound c.of.result c.joined-sum.result c.distance-apart.ensures (bound b h) near c.of.ensures c.joined-sum.ensures in
    c.loop-earlier.invariant b h ∙ row_some (problem dist b) cst k e x (ratios items) c.loop-earlier.sum c.joined-sum.result y inside at pair

pub overflow_cast-search : goal.overflow_cast-search
overflow_cast-search g t c =
    let few = (there c.in-Some-candidates.ensures.by_book).2 in search rules

pub listed : goal.listed
listed g t c =
    omega (arith, (there c.in-Some-candidates.ensures.by_book).1, c.candidates.search.places)

pub bounds-search-k : goal.bounds-search-k
bounds-search-k g t c = (there c.in-Some-candidates.ensures.by_book).1

pub unwrap-requires : goal.unwrap-requires
unwrap-requires g t c =
    (cost_on c.candidates.invariant c.requires.height (there c.in-Some-candidates.ensures.by_book).1 c.requires.wide c.push.result c.loop-earlier.sum c.push.ensures.put).0

pub descend-requires : goal.descend-requires
descend-requires g t c κs =
    let few = there c.in-Some-candidates.ensures.by_book in
    let now = c.candidates.search in
    let tried = c.candidates.invariant in
    let on = (cost_on tried c.requires.height few.1 c.requires.wide c.push.result c.loop-earlier.sum c.push.ensures.put).1 in
    let height : length now.costs.values ≡ c.args.k + 1 = ap length tried.costs ∙ c.requires.height in
    let higher : length c.push.new.self.values ≡ c.args.k + 2 = ap length on ∙ (length_push now.costs.values c.loop-earlier.sum ∙ omega arith) in
    let still : 33 ≤ room c.push.new.self = omega (arith, c.push.ensures.size, tried.size, c.requires.wide) in
    let below = few.0 in
    let within = tried.within in
    let spare = c.if-search-self.false in
    λ ls. (search rules, (ls.0, (ls.1.0, (ls.1.1, (higher ∙ omega arith, (still, (omega arith, omega arith)))))))

pub returns-in_err-descend : goal.returns-in_err-descend
returns-in_err-descend g t c =
    let dist = g.M.Measure.dist c.args.self.now.yardstick.now.measure.now in
    let k = c.args.k in
    let read = c.in-Some-candidates.ensures.by_book in
    let small = (there read).1 in
    let now = c.candidates.search in
    let tried = c.candidates.invariant in
    let long : k ≤ length now.laid = omega (arith, now.places) in
    let on = (cost_on tried c.requires.height small c.requires.wide c.push.result c.loop-earlier.sum c.push.ensures.put).1 in
    let kept = λ (b : Book) (h : Holds c.args.self.now.draft.now b). c.loop-earlier.invariant b h ∙ row_end (problem dist b) (meant g.C.Costing) k c.loop-earlier.earlier c.index-candidates-number.result (ratios (take k now.laid)) c.loop-earlier.sum (omega (arith, many_laid now.laid k long, c.loop-earlier-test.false)) in
    let over = spent_child read tried c.candidates-test.true c.index-candidates-number.is long kept _ refl refl refl (omega (arith, now.places)) (c.in_err-descend.ensures.searched now.costs.values c.loop-earlier.sum on) in
    record { searched = λ past v e. MatchResult-from_err _ _ _ c.from_residual.ensures.0 (λ y. overspent_of (on_top c.top.ensures.0 c.unwrap-cost.ensures c.top.ensures.1 past v e) over) }

pub candidates-preserved : goal.candidates-preserved
candidates-preserved g t c =
    let dist = g.M.Measure.dist c.args.self.now.yardstick.now.measure.now in
    let k = c.args.k in
    let read = c.in-Some-candidates.ensures.by_book in
    let small = (there read).1 in
    let now = c.candidates.search in
    let tried = c.candidates.invariant in
    let long : k ≤ length now.laid = omega (arith, now.places) in
    let on = (cost_on tried c.requires.height small c.requires.wide c.push.result c.loop-earlier.sum c.push.ensures.put).1 in
    let kept = λ (b : Book) (h : Holds c.args.self.now.draft.now b). c.loop-earlier.invariant b h ∙ row_end (problem dist b) (meant g.C.Costing) k c.loop-earlier.earlier c.index-candidates-number.result (ratios (take k now.laid)) c.loop-earlier.sum (omega (arith, many_laid now.laid k long, c.loop-earlier-test.false)) in
    let went = c.in_ok-descend.ensures.searched now.costs.values c.loop-earlier.sum on in
    let off = taken_put c.pop.result now.costs.values c.descend.new.search.costs.values c.pop.new.self.values c.loop-earlier.sum (went.costs ∙ on) c.pop.ensures.taken in
    trying_on read tried c.candidates-test.true c.index-candidates-number.is long kept _ refl refl refl (omega (arith, now.places)) went refl refl refl off.1 (c.pop.ensures.size ∙ (went.size ∙ c.push.ensures.size))

pub returns : goal.returns
returns g t c =
    let went = trying_all c.in-Some-candidates.ensures.by_book c.candidates.invariant c.candidates-test.false in
    record { searched = λ past v e. went_of (on_top c.top.ensures.0 c.unwrap-cost.ensures c.top.ensures.1 past v e) went }
