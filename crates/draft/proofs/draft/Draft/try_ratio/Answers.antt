use Rattle.std.proofs.Common.{◌≡◌, ◌<◌, ◌≤◌, ◌++◌, length, Ok, sym, ap, arith, rules}
use Rattle.ratio.specs.Computed.{entry}
use Rattle.draft.specs.Book.{changed, entered_ratio}
use Rattle.draft.specs.Held.{listed}
use Rattle.draft.specs.declared.call.Call.TheVariants.{Try}
use Rattle.draft.specs.declared.fault.DraftFault.TheVariants.{CandidatesFull}
use Rattle.draft.proofs.Changing.{by_change}
use Rattle.draft.proofs.Refusals.{try_absent, try_full, try_taken}
use Rattle.draft.proofs.draft.Draft.try_ratio.Goals as goal

pub returns : goal.returns
returns c =
    let t = c.args.tone in
    let n = c.args.numerator in
    let m = c.args.denominator in
    let r = c.in_ok-ratio.ratio in
    let value : entry n m ≡ Ok r = sym c.in_ok-ratio.ensures.value in
    record {
      by_book = by_change c.args.self.now _ (Try t n m) t (λ cs. cs ++ entered_ratio (Ok r)) CandidatesFull (λ x. length (listed x) < 8) (λ x. 8 ≤ length (listed x))
          (λ b. ap (λ e. record { tones = changed t (λ cs. cs ++ entered_ratio e) b.tones; bound = b.bound }) value)
          (λ b none. try_absent b t n m r value none)
          (λ b x there held takes. try_taken b t n m r value there (omega (arith, takes, ap length held)))
          (λ b x there held refuses. try_full b t n m r value there (omega (arith, refuses, ap length held)))
          _ _ _ c.change_tone.ensures.changed (λ p q gave. search rules);
    }
