use Rattle.std.proofs.Common.{◌≡◌, ◌-◌, length, take, drop}
use Rattle.draft.specs.Book.{Book}
use Rattle.draft.specs.Held.{Holds}
use Rattle.settling.specs.Explore.{row}
use Rattle.settling.specs.Posed.{problem, meant}
use Rattle.settling.specs.Searching.{ratios, numbers}
use Rattle.settling.proofs.Descent.{Trying}
use Rattle.settling.proofs.search.Quest.+descend.Given as goal

abbrev pub decreases-descend : goal.decreases-descend
decreases-descend g l = 33 - l.k

abbrev pub invariant-candidates : goal.invariant-candidates
invariant-candidates g l = Trying (g.M.Measure.dist l.self.yardstick.now.measure.now) (meant g.C.Costing) l.self.draft.now l.self.allowance l.k l.cost l.candidates l.number l.initial.search l.search

-- so far the sheet has the numbers of what is laid
abbrev pub invariant-loop-place : goal.invariant-loop-place
invariant-loop-place g l = (take l.place l.sheet ≡ take l.place (numbers l.placed-items)) × (length l.sheet ≡ 32)

abbrev pub invariant-loop-earlier : goal.invariant-loop-earlier
invariant-loop-earlier g l =
    (b : Book) → Holds l.self.draft.now b
    → let p = problem (g.M.Measure.dist l.self.yardstick.now.measure.now) b in
    let c = meant g.C.Costing in
    row p c l.k l.ratio 0 (ratios l.laid-items) l.cost ≡ row p c l.k l.ratio l.earlier (drop l.earlier (ratios l.laid-items)) l.sum
