-- Answers line after line, where a line is known by its first 81 bytes. Assumes nothing.
use Rattle.std.proofs.Common.{◌≡◌, ℕ, ◌<◌, ◌≤◌, List, [], ◌∷◌, ◌++◌, length, take, Some, None, Ok, Err, Option, Result, sym, refl, ap, ◌∙◌, subst, ⊎_elim, append_assoc, append-nil, arith}
use Rattle.std.proofs.lemmas.Bool.{cases_lt}
use Rattle.lines.specs.declared.line.Line.{Line}
use Rattle.lines.specs.Hearing.{held, OneMore}
use Rattle.std.specs.Option.{MatchOption, IsSomeAnd}
use Rattle.lines.proofs.Hearing.{heard_count, heard_whole}
use Rattle.ratio.specs.declared.ratio.Ratio.{Ratio}
use Rattle.interval.specs.declared.fault.LineFault.{LineFault}
use Rattle.interval.specs.declared.fault.LineFault.TheVariants.{TooLong, NoRatioWord, Entry}
use Rattle.interval.specs.Naming.{Named}
use Rattle.interval.specs.declared.answer.Answer.{Answer}
use Rattle.interval.specs.Answers.{Answered, AllAnswered, answer_text, spoken}

-- a line over 80 bytes names nothing but that fault
long_named : (line past : List ℕ) (r : Result Ratio LineFault) → 80 < length line → 80 < length past → Named line r → Named past r
long_named line past (Ok a) h i n = absurd (omega (arith, n.short))
long_named line past (Err TooLong) h i n = i
long_named line past (Err NoRatioWord) h i n = absurd (omega (arith, n.0))
long_named line past (Err (Entry f)) h i n = absurd (omega (arith, n.short))

held_named : (line past : List ℕ) (r : Result Ratio LineFault) → line ≡ take 81 past → Named line r → Named past r
held_named line past r e n =
    let count = heard_count line past e in
    ⊎_elim
    (λ (h : 80 < length line). long_named line past r h (omega arith) n)
    (λ (h : length line ≤ 80). subst (λ l. Named l r) (heard_whole line past e h) n)
    (cases_lt 80 (length line))

pub answered_held : (line past text : List ℕ) → line ≡ take 81 past → Answered line text → Answered past text
answered_held line past text e a = record { named = a.named; names = held_named line past a.named e a.names; is = a.is }

-- one line and its answer more
pub answered_more : (lines : List (List ℕ)) (said line text : List ℕ) → AllAnswered lines said → Answered line text → AllAnswered (lines ++ (line ∷ [])) (said ++ (text ++ (10 ∷ [])))
answered_more [] said line text all one = (text, ([], one, refl, ap (λ s. s ++ (text ++ (10 ∷ []))) all))
answered_more (l ∷ lines) said line text all one =
    let first = all.0 in
    let rest = all.1.0 in
    let more = text ++ (10 ∷ []) in
    (first, (rest ++ more, all.1.1, answered_more lines rest line text all.1.2 one, ap (λ s. s ++ more) all.1.3 ∙ append_assoc first (10 ∷ rest) more))

-- what is told of one line more is answered, and of none nothing is said
pub answered_on : (told : Option Line) (answer : Option Answer) (line : List ℕ) (before after : List (List ℕ)) (said : List ℕ)
    → MatchOption told (answer ≡ None) (λ l. IsSomeAnd answer (λ a. Answered (held l) (answer_text a)))
    → OneMore told line before after → AllAnswered before said → AllAnswered after (said ++ spoken answer)
answered_on None None line before after said nothing more all = subst (λ lines. AllAnswered lines (said ++ [])) (sym more) (subst (AllAnswered before) (sym (append-nil said)) all)
answered_on None (Some a) line before after said nothing more all = cc
answered_on (Some l) None line before after said one more all = absurd one
answered_on (Some l) (Some a) line before after said one more all =
    subst (λ lines. AllAnswered lines (said ++ (answer_text a ++ (10 ∷ [])))) (sym more.1) (answered_more before said line (answer_text a) all (answered_held (held l) line (answer_text a) more.0 one))
