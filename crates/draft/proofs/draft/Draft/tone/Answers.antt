use Rattle.std.proofs.Common.{◌≡◌, ◌≤◌, [], ◌∷◌, ◌++◌, map, nat_abs, Ok, Err, refl, sym, ap, ◌∙◌, subst, arith, rules, w32}
use Rattle.std.proofs.lemmas.List.{map-append}
use Rattle.std.proofs.lemmas.Int.{ints, to_z-of_z}
use Rattle.std.specs.Result.{MatchResult, IsErrAnd}
use Rattle.draft.specs.Held.{ByBook, noted, entered_tones}
use Rattle.draft.specs.declared.call.Call.TheVariants.{Tone}
use Rattle.draft.specs.declared.fault.DraftFault.TheVariants.{TonesFull}
use Rattle.draft.proofs.Going.{refused_by, taken_by, as_pushed}
use Rattle.draft.proofs.Holding.{held_length, same_draft}
use Rattle.draft.proofs.Refusals.{tone_full, tone_taken}
use Rattle.draft.proofs.draft.Draft.tone.Goals as goal

pub returns : goal.returns
returns c =
    let d = c.args.self.now in
    let pitch = c.args.pitch in
    let within : nat_abs pitch ≤ 12000000 = omega (arith, ints) in
    let made : noted c.new.result ≡ record { pitch = pitch; candidates = [] } = λ i. record { pitch = (c.new.ensures.pitch ∙ to_z-of_z w32 pitch c.ranges.pitch) i; candidates = c.new.ensures.listed i } in
    let told : MatchResult c.push.result (λ x. c.map_err.result ≡ Ok x) (λ _. IsErrAnd c.map_err.result (λ f. f ≡ TonesFull)) = search rules in
    record {
      by_book = as_pushed d _ (Tone pitch) TonesFull c.push.result c.map_err.result _ _ c.push.ensures.cases told
          (λ went. taken_by d _ (Tone pitch) (λ b h. tone_taken b pitch within (omega (arith, went.0, held_length d b h))) (λ b h. record {
            tones = ap (map noted) went.1 ∙ (map-append noted (entered_tones d) (c.new.result ∷ []) ∙ (ap (λ ns. ns ++ (noted c.new.result ∷ [])) h.tones ∙ ap (λ n. b.tones ++ (n ∷ [])) made));
            bounds = h.bounds;
          }))
          (λ _ full.
          let same = same_draft d _ full.1 refl in
          subst (λ d'. ByBook d d' (Tone pitch) (Err TonesFull)) (sym same) (refused_by d (Tone pitch) TonesFull (λ b h. tone_full b pitch within (omega (arith, full.0, held_length d b h)))));
    }
