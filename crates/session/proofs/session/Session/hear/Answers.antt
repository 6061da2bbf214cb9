use Rattle.std.proofs.Common.{◌≡◌, ◌≤◌, length, Ok, Err, Some, None, IfOk, unwrap_or, sym, subst, ap, ◌∙◌, arith, rules, length-append, [], ◌∷◌}
use Rattle.draft.proofs.Holding.{held_book}
use Rattle.draft.specs.Held.{book_of}
use Rattle.command.specs.Reading.{Placed}
use Rattle.refusal.specs.Texts.{refusal_line}
use Rattle.session.specs.Answers.{refusal_text, scale_text}
use Rattle.session.specs.Faults.{session_refusal}
use Rattle.session.specs.Obeying.{Obeyed}
use Rattle.session.specs.Pages.{Written}
use Rattle.session.specs.declared.fault.SessionFault.TheVariants.{Text}
use Rattle.session.proofs.Pages.{as_text, refusal_short}
use Rattle.session.proofs.Following.{Spoken, heard_one, entered_spoken, scale_holds, scale_spoken, refused_spoken}
use Rattle.session.proofs.session.Session.hear.Goals as goal
use Rattle.session.proofs.session.Session.hear.Goals.{in_default-Ok-None, in_default-Ok-Some, in-Err-Err, in-Ok-Err}

pub returns : goal.returns
returns c =
    let reference = c.over-page.ensures.same_reference in
    let long = c.if-answer-lt-ANSWER_ROOM.false in
    let line = c.args.line.now in
    let read = c.read-read.result in
    let before = c.args.self.now in
    let after = c.obey.new.self in
    elim c.match-obey.branch [
      | in_default-Ok-None w ↦
          let name = ap (λ p. p.out.ghost_name) w.page-is ∙ w.text.ensures.written.same_reference in
          let none : w.in_default-Ok-None.field-0-1 ≡ None = search rules in
          let did = subst (λ x. Obeyed read before after (Ok x)) none w.in_default-Ok-None.ensures.obeyed in
          record {
            heard = (
              long,
              heard_one {q = w.text.new.self} read (Ok None) c.read-read.ensures.read did long c.over-page.ensures.fresh (search rules) (search rules)
                  (λ b h. (_, (omega arith, (w.text.ensures.written, entered_spoken line read before after b did)))),
            );
          }
      | in_default-Ok-Some w ↦
          let s = w.in_default-Ok-Some.settled in
          let did = subst (λ x. Obeyed read before after (Ok x)) w.in_default-Ok-Some.is-1 w.in_default-Ok-Some.ensures.obeyed in
          let name = ap (λ p. p.out.ghost_name) w.page-is ∙ (w.scale.ensures.written (book_of after.draft) (held_book after.draft)).same_reference in
          record {
            heard = (
              long,
              heard_one {q = w.scale.new.self} read (Ok (Some s)) c.read-read.ensures.read did long c.over-page.ensures.fresh (search rules) (search rules)
                  (λ b h. let holds = scale_holds read before after b s h did in (scale_text b after.sheet s, (subst (λ x. length (scale_text b after.sheet x) ≤ 1280) w.in_default-Ok-Some.settled-is (w.scale.ensures.short b holds), (subst (λ x. Written c.over-page.result (scale_text b after.sheet x) w.scale.new.self) w.in_default-Ok-Some.settled-is (w.scale.ensures.written b holds), scale_spoken line read before after b s did)))),
            );
          }
      | in-Err-Err w ↦
          let fault = w.in-Err-Err.fault in
          let r = w.refusal-in-Err-Err.result in
          let name = ap (λ p. p.out.ghost_name) w.page-is ∙ w.refusal-in-Err-Err-2.ensures.written.same_reference in
          record {
            heard = (
              long,
              heard_one {q = w.refusal-in-Err-Err-2.new.self} read c.obey.result c.read-read.ensures.read c.obey.ensures.obeyed long c.over-page.ensures.fresh (search rules) (search rules)
                  (λ b h.
                  let short : length (refusal_text r) ≤ 1280 = omega (arith, refusal_short r (search rules) (search rules), length-append (refusal_line r) (10 ∷ [])) in
                  let is : r ≡ session_refusal (Text fault) 0 = w.refusal-in-Err-Err.ensures in
                  let spoken = subst (λ x. Spoken line x b after.sheet c.obey.result (refusal_text r)) (sym w.in-Err-Err.is-0) (ap refusal_text is) in
                  (refusal_text r, (short, (w.refusal-in-Err-Err-2.ensures.written, spoken)))),
            );
          }
      | in-Ok-Err w ↦
          let command = w.in-Ok-Err.command in
          let fault = w.in-Ok-Err.fault in
          let did = w.in-Ok-Err.ensures.obeyed in
          let placed = subst (λ x. IfOk x (λ c. Placed line c.columns)) w.in-Ok-Err.is-0 c.read-read.ensures.placed in
          let r = w.refusal-in-Ok-Err.result in
          let name = ap (λ p. p.out.ghost_name) w.page-is ∙ w.refusal-in-Ok-Err-2.ensures.written.same_reference in
          record {
            heard = (
              long,
              heard_one {q = w.refusal-in-Ok-Err-2.new.self} read (Err fault) c.read-read.ensures.read did long c.over-page.ensures.fresh (search rules) (search rules)
                  (λ b h.
                  let told = refused_spoken line command b after.sheet fault c.tones-tones.result w.told_at.result w.told_at.ensures.told (c.tones-tones.ensures.by_book b h) placed in
                  let spoken = subst (λ x. Spoken line x b after.sheet (Err fault) (refusal_text (session_refusal fault (unwrap_or w.told_at.result 0)))) (sym w.in-Ok-Err.is-0) told in
                  let short : length (refusal_text r) ≤ 1280 = omega (arith, refusal_short r (search rules) (search rules), length-append (refusal_line r) (10 ∷ [])) in
                  let is = w.refusal-in-Ok-Err.ensures ∙ ap (session_refusal fault) w.unwrap_or-column.ensures in
                  (_, (subst (λ x. length (refusal_text x) ≤ 1280) is short, (as_text (ap refusal_text is) w.refusal-in-Ok-Err-2.ensures.written, spoken)))),
            );
          }
    ]
