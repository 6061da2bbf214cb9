-- Lines that are known by their first 81 bytes. Assumes nothing.
use Rattle.std.proofs.Common.{◌≡◌, ℕ, ◌<◌, ◌≤◌, List, [], ◌∷◌, ◌++◌, length, take, replicate, Ok, Err, Result, sym, refl, ap, ◌∙◌, subst, ⊎_elim, append-nil, arith}
use Rattle.std.proofs.lemmas.Bool.{cases_lt}
use Rattle.lines.proofs.Hearing.{heard_count, heard_whole}
use Rattle.lines.specs.Splitting.{ended, open_line, all_lines, unless_empty}
use Rattle.draft.specs.Book.{Book, new_book}
use Rattle.settling.proofs.Listed.{gathered_push}
use Rattle.settling.specs.declared.step.Step.{Step}
use Rattle.command.specs.Reading.{Read}
use Rattle.command.specs.declared.fault.TextFault.{TextFault}
use Rattle.command.specs.declared.fault.TextFault.TheVariants.{TooLong, NoCommand, WrongWords, NoForm}
use Rattle.session.specs.Answers.{Done, LineDone}
use Rattle.session.specs.Following.{AllDone, Followed}
use Rattle.session.specs.Transcribing.{in_a_row}
use Rattle.session.specs.declared.session.Session.{Session}

-- of a line over 80 bytes nothing matters but that
long_done : (line past text : List ℕ) (r : Result Step TextFault) (b b' : Book) (s s' : List ℕ) → 80 < length line → 80 < length past → Read line r → Done line r text b b' s s'
    → Read past r × Done past r text b b' s s'
long_done line past text (Ok step) b b' s s' h i reads done = absurd (omega (arith, reads.0.short))
long_done line past text (Err TooLong) b b' s s' h i reads done = (i, done)
long_done line past text (Err NoCommand) b b' s s' h i reads done = absurd (omega (arith, reads.0))
long_done line past text (Err WrongWords) b b' s s' h i reads done = absurd (omega (arith, reads.1.0.short))
long_done line past text (Err (NoForm column)) b b' s s' h i reads done = absurd (omega (arith, reads.1.0.short))

-- what is done with the first 81 bytes of a line is done with the line
pub held_done : (line past text : List ℕ) (b b' : Book) (s s' : List ℕ) → line ≡ take 81 past → LineDone line text b b' s s' → LineDone past text b b' s s'
held_done line past text b b' s s' e d =
    let count = heard_count line past e in
    ⊎_elim
    (λ (h : 80 < length line). let long = long_done line past text d.read b b' s s' h (omega arith) d.reads d.done in record { read = d.read; reads = long.0; done = long.1 })
    (λ (h : length line ≤ 80). subst (λ l. LineDone l text b b' s s') (heard_whole line past e h) d)
    (cases_lt 80 (length line))

-- so it is of the last of many lines
last_done : (lines answers : List (List ℕ)) (line past : List ℕ) (b b' : Book) (s s' : List ℕ) → line ≡ take 81 past → AllDone (lines ++ (line ∷ [])) answers b b' s s'
    → AllDone (lines ++ (past ∷ [])) answers b b' s s'
last_done [] [] line past b b' s s' e all = absurd all
last_done [] (t ∷ answers) line past b b' s s' e all = (all.0, (all.1.0, (held_done line past t b all.0 s all.1.0 e all.1.1.0, all.1.1.1)))
last_done (l ∷ lines) [] line past b b' s s' e all = absurd all
last_done (l ∷ lines) (t ∷ answers) line past b b' s s' e all = (all.0, (all.1.0, (all.1.1.0, last_done lines answers line past all.0 b' all.1.0 s' e all.1.1.1)))

pub followed_held : (session : Session) (lines answers : List (List ℕ)) (line past : List ℕ) → line ≡ take 81 past → Followed session (lines ++ (line ∷ [])) answers
    → Followed session (lines ++ (past ∷ [])) answers
followed_held session lines answers line past e f = record { book = f.book; done = last_done lines answers line past new_book f.book (replicate 32 0) session.sheet e f.done; holds = f.holds }

-- one text more in a row
pub row_more : (texts : List (List ℕ)) (text : List ℕ) → in_a_row texts ++ text ≡ in_a_row (texts ++ (text ∷ []))
row_more texts text = sym (gathered_push (λ (t : List ℕ). t) texts text)

alone : (line : List ℕ) → (line ≡ [] → ⊥) → unless_empty line ≡ line ∷ []
alone [] some = absurd (some refl)
alone (b ∷ line) some = refl

-- the lines of an input whose last is open
pub lines_with_last : (past : List ℕ) → (open_line past ≡ [] → ⊥) → ended past ++ (open_line past ∷ []) ≡ all_lines past
lines_with_last past some = ap (λ last. ended past ++ last) (sym (alone (open_line past) some))

-- and of one where none is open
pub lines_without_last : (past : List ℕ) → open_line past ≡ [] → ended past ≡ all_lines past
lines_without_last past none = sym (append-nil (ended past)) ∙ ap (λ l. ended past ++ unless_empty l) (sym none)
