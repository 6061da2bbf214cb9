use Rattle.std.proofs.Common.{◌≡◌, [], ◌∷◌, ◌++◌, take, ap, ◌∙◌, subst, arith}
use Rattle.std.proofs.lemmas.Bool.{false≢true}
use Rattle.lines.specs.Hearing.{held}
use Rattle.lines.specs.Splitting.{ended, open_line}
use Rattle.session.specs.Following.{Followed}
use Rattle.session.proofs.Transcribing.{followed_held, lines_with_last, row_more}
use Rattle.session.proofs.transcript.Transcript.finish.Goals as goal

pub returns : goal.returns
returns c =
    let by = c.answer-end.ensures.answered in
    let text = take c.answer-end.result c.answer-end.new.answer in
    record {
      finished = λ past said f.
          let one = followed_held c.answer-end.new.self.session (ended past) (f.answers ++ (text ∷ [])) (held c.args.self.now.line) (open_line past) f.heard (by.one.followed (ended past) f.answers f.followed) in
          let some : open_line past ≡ [] → ⊥ = λ none. false≢true ((c.if-is_empty.ensures.nothing_heard (open_line past) f.heard).1 none) in
          record {
            heard = c.clear.ensures.heard;
            answers = f.answers ++ (text ∷ []);
            followed = subst (λ lines. Followed c.answer-end.new.self.session lines (f.answers ++ (text ∷ []))) (lines_with_last past some) one;
            spoken = ap (λ s. s ++ text) f.spoken ∙ row_more f.answers text;
          };
      wrote = record { within = omega (arith, by.one.within, by.room); rest = by.one.rest };
    }
