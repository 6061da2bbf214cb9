use Rattle.std.proofs.Common.{◌≡◌, ◌-◌, length, take}
use Rattle.costing.proofs.Stacked.{last_off}
use Rattle.costing.proofs.stack.Stack.top.Goals as goal

pub returns : goal.returns
returns g c =
    let xs = take c.self.inside.height c.self.inside.slots.now in
    let held : xs ≡ c.args.self.now.values = cc in
    (take (length xs - 1) xs, simp (c.copied.ensures, c.last.ensures.value, ← held) (last_off xs))
