use Rattle.std.proofs.Common.{◌≡◌, ◌+◌, [], ◌∷◌, ◌++◌, length, get_or, length-append, sym, ap, ◌∙◌, arith, w32}
use lib.ListN.{length-map}
use Rattle.std.proofs.lemmas.Int.{to_z-of_z}
use Rattle.std.proofs.lemmas.Slice.Zip.{zip_turn, zip_end}
use Rattle.draft.proofs.Holding.{held_book}
use Rattle.draft.specs.Book.{Book}
use Rattle.draft.specs.Held.{Holds, book_of, noted}
use Rattle.ratio.specs.Parts.{unison}
use Rattle.settling.specs.Settling.{below}
use Rattle.std.specs.List.{flat_map}
use Rattle.session.specs.Answers.{ratio_line, tone_line, heading, laid_at}
use Rattle.session.proofs.Pages.{then, as_text}
use Rattle.session.proofs.Scaling.{few_held, lines_more, tone_listed, tone_pitch, heading_short}
use Rattle.session.proofs.page.Page.scale.Goals as goal

pub loop-tone-preserved : goal.loop-tone-preserved
loop-tone-preserved c = λ b h.
    let sheet = c.args.sheet.now in
    let tones = c.listed.result.now in
    let yielded = c.loop-tone.yielded in
    let x = c.in-Some.tone.now in
    let turn = zip_turn tones sheet yielded c.into_iter-tone-iterator.result c.loop-tone.tone-iterator c.next.new.self _ (cc) (cc) c.loop-tone.yielded_by _ c.in-Some.is c.next.ensures.steps in
    let held = c.listed.ensures.by_book b h in
    let listed = tone_listed b tones held (length yielded) turn.0 x (turn.2 x) in
    let laid : c.laid.result ≡ laid_at b sheet (length yielded) = c.laid.ensures.laid ∙ (λ i. get_or (listed i) (turn.3 0 i) unison) in
    let pitch = to_z-of_z w32 c.pitch.result (record { sfits = c.pitch.type_inv }) ∙ c.pitch.ensures ∙ tone_pitch b tones held (length yielded) turn.0 x (turn.2 x) in
    let line : ratio_line c.laid.result _ ≡ tone_line b sheet (length yielded) = λ i. ratio_line (laid i) (pitch i) in
    let one : length (yielded ++ ((c.in-Some.tone, c.in-Some.number) ∷ [])) ≡ length yielded + 1 = length-append yielded _ in
    let more = lines_more (tone_line b sheet) (length yielded) ∙ ap (λ n. flat_map (tone_line b sheet) (below n)) (sym one) in
    let before = c.loop-tone.invariant b h in (
      as_text more (then before.0 (as_text line c.tone.ensures.written)),
      omega (arith, one, before.1, ap length more, ap length line, c.tone.ensures.short, length-append (flat_map (tone_line b sheet) (below (length yielded))) (tone_line b sheet (length yielded))),
    )

pub returns : goal.returns
returns c =
    let s = c.args.settled in
    let d = c.args.draft.now in
    let sheet = c.args.sheet.now in
    let tones = c.listed.result.now in
    let yielded = c.loop-tone.yielded in
    let end = zip_end tones sheet yielded c.into_iter-tone-iterator.result c.loop-tone.tone-iterator c.next.new.self _ (cc) (cc) c.loop-tone.yielded_by c.in-None.is c.next.ensures.steps in
    let all : (b : Book) → Holds d b → length yielded ≡ length b.tones = λ b h.
    omega (arith, end, length-map tones noted, ap length (c.listed.ensures.by_book b h), ap length (c.listed.ensures.by_book (book_of d) (held_book d)), few_held d, c.fits-sheet) in
    record {
      written = λ b h. as_text (ap (λ n. heading s ++ flat_map (tone_line b sheet) (below n)) (all b h)) (then c.heading.ensures.written (c.loop-tone.invariant b h).0);
      short = λ b h.
          let lines = flat_map (tone_line b sheet) (below (length yielded)) in
          let whole = ap (λ n. length (heading s ++ flat_map (tone_line b sheet) (below n))) (all b h) in
          omega (arith, whole, length-append (heading s) lines, heading_short s, (c.loop-tone.invariant b h).1, all (book_of d) (held_book d), few_held d);
    }
