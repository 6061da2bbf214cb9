use Rattle.std.proofs.Common.{◌≡◌, ℕ, get_or, pos, ◌∙◌, arith, rules}
use Rattle.ratio.proofs.Multiplicities.{all_six, difference, small_difference, minus_at}
use Rattle.ratio.proofs.entry.Factors.minus.Goals as goal

pub returns : goal.returns
returns c =
    let xs = c.args.self.now.multiplicities in
    let ys = c.args.other.now.multiplicities in
    let zs = c.from_fn.result in
    let At : ℕ → Type 0 = λ i. get_or zs i (pos 0) ≡ difference (get_or xs i 0) (get_or ys i 0) in
    let a : At 0 = search rules in
    let b : At 1 = search rules in
    let d : At 2 = search rules in
    let f : At 3 = search rules in
    let g : At 4 = search rules in
    let k : At 5 = search rules in
    minus_at xs ys zs (omega arith) (omega (arith, c.from_fn.ensures.items.long))
    (λ i h. all_six At a b d f g k i (omega arith) ∙ small_difference (get_or xs i 0) (get_or ys i 0) (c.args.self.now.few i 0 h) (c.args.other.now.few i 0 (omega arith)))
