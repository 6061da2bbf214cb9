use Rattle.std.proofs.Common.{◌<◌, ◌≤◌, length, refl, ap, arith, rules}
use Rattle.std.specs.List.{remove}
use Rattle.draft.specs.Held.{listed}
use Rattle.draft.specs.declared.call.Call.TheVariants.{Strike}
use Rattle.draft.specs.declared.fault.DraftFault.TheVariants.{NoCandidate}
use Rattle.draft.proofs.Changing.{by_change}
use Rattle.draft.proofs.Refusals.{strike_absent, strike_none, strike_taken}
use Rattle.draft.proofs.draft.Draft.strike.Goals as goal

pub returns : goal.returns
returns c =
    let t = c.args.tone in
    let k = c.args.candidate in
    record {
      by_book = by_change c.args.self.now _ (Strike t k) t (λ cs. remove cs k) NoCandidate (λ x. k < length (listed x)) (λ x. length (listed x) ≤ k)
          (λ b. refl)
          (λ b none. strike_absent b t k none)
          (λ b x there held takes. strike_taken b t k there (omega (arith, takes, ap length held)))
          (λ b x there held refuses. strike_none b t k there (omega (arith, refuses, ap length held)))
          _ _ _ c.change_tone.ensures.changed (λ p q gave. search rules);
    }
