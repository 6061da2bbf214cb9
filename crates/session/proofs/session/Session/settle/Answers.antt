use Rattle.std.proofs.Common.{◌≡◌, length, subst, rules}
use Rattle.measure.specs.Weights.{weighted_distance}
use Rattle.settling.specs.Costings.{total}
use Rattle.settling.specs.Promise.{Settling}
use Rattle.session.specs.Answers.{barlow}
use Rattle.session.proofs.session.Session.settle.Goals as goal

pub returns-clause-settles : goal.returns-clause-settles
returns-clause-settles c = λ b h.
    let s = c.args.self.now in
    let long : length s.stack ≡ 33 = search rules in
    subst (λ n. Settling barlow total b c.args.allowance n c.settle.result s.sheet c.settle.new.sheet) long
    (subst (λ ws. Settling (weighted_distance ws) total b c.args.allowance (length s.stack) c.settle.result s.sheet c.settle.new.sheet) c.barlow-barlow.ensures.held (c.settle.ensures.settles b h))
