use Rattle.std.proofs.Common.{[], ◌∷◌, ◌++◌, take, sym, ap, ◌∙◌, subst, arith}
use Rattle.lines.specs.Hearing.{held}
use Rattle.lines.specs.Splitting.{ended, open_line}
use Rattle.session.specs.Following.{Followed}
use Rattle.session.proofs.Transcribing.{followed_held, row_more}
use Rattle.session.proofs.transcript.Transcript.hear.Goals as goal

pub returns-then-ends_line : goal.returns-then-ends_line
returns-then-ends_line c =
    let by = c.answer-end.ensures.answered in
    let text = take c.answer-end.result c.answer-end.new.answer in
    record {
      transcribed = λ past said f.
          let one = followed_held c.answer-end.new.self.session (ended past) (f.answers ++ (text ∷ [])) (held c.args.self.now.line) (open_line past) f.heard (by.one.followed (ended past) f.answers f.followed) in
          record {
            heard = c.clear.ensures.heard ∙ ap (take 81) (sym (c.if-ends_line.ensures.goes_on past));
            answers = f.answers ++ (text ∷ []);
            followed = subst (λ lines. Followed c.answer-end.new.self.session lines (f.answers ++ (text ∷ []))) (sym (c.if-ends_line.ensures.ends past)) one;
            spoken = ap (λ s. s ++ text) f.spoken ∙ row_more f.answers text;
          };
      wrote = record { within = omega (arith, by.one.within, by.room); rest = by.one.rest };
    }
