-- One line more of a session. Assumes nothing.
use Rattle.std.proofs.Common.{◌≡◌, ℕ, ◌≤◌, unwrap_or, true, false, List, [], ◌∷◌, ◌++◌, length, get_or, take, drop, replicate, is_err, Some, None, Ok, Err, codes, Option, Result, sym, refl, ap, ◌∙◌, subst, arith}
use Rattle.std.proofs.lemmas.Bool.{false≢true}
use Rattle.std.proofs.lemmas.Option.{unwrap_or-slice_get}
use Rattle.draft.proofs.Holding.{held_book}
use Rattle.draft.specs.Book.{Book, new_book}
use Rattle.draft.specs.Held.{Holds, book_of}
use Rattle.settling.specs.Costings.{total}
use Rattle.settling.specs.Run.{stepped, Answered}
use Rattle.settling.specs.declared.settle.Settled.{Settled}
use Rattle.settling.specs.declared.step.Answer.{Answer}
use Rattle.settling.specs.declared.step.Answer.TheVariants.{Entered as EnteredAnswer, Settled as SettledAnswer}
use Rattle.settling.specs.declared.step.Step.{Step}
use Rattle.settling.specs.declared.step.Step.TheVariants.{Enter, Settle}
use Rattle.command.specs.Reading.{Read, step_read, Placed}
use Rattle.command.specs.Words.{word_columns}
use Rattle.command.specs.declared.command.Command.{Command}
use Rattle.command.specs.declared.fault.TextFault.{TextFault}
use Rattle.session.proofs.Pages.{taken, left, put_over}
use Rattle.session.specs.Answers.{barlow, replied, refusal_text, reply_text, scale_text, LineDone}
use Rattle.session.specs.Faults.{session_refusal, fault_word}
use Rattle.session.specs.Following.{AllDone, HeardOne}
use Rattle.session.specs.Obeying.{Obeyed, ToldAt}
use Rattle.session.specs.Pages.{overwritten, Put, Written, Fresh}
use Rattle.session.specs.declared.page.Page.{Page}
use Rattle.session.specs.declared.fault.SessionFault.{SessionFault}
use Rattle.session.specs.declared.fault.SessionFault.TheVariants.{Text}
use Rattle.session.specs.declared.session.Session.{Session}

-- one line more is done
pub done_more : (lines answers : List (List ℕ)) (line text : List ℕ) (b m b' : Book) (sheet s s' : List ℕ) → AllDone lines answers b m sheet s → LineDone line text m b' s s'
    → AllDone (lines ++ (line ∷ [])) (answers ++ (text ∷ [])) b b' sheet s'
done_more [] [] line text b m b' sheet s s' all one = (b', (s', (subst (λ x. LineDone line text x b' sheet s') all.0 (subst (λ x. LineDone line text m b' x s') all.1 one), (refl, refl))))
done_more [] (t ∷ answers) line text b m b' sheet s s' all one = absurd all
done_more (l ∷ lines) [] line text b m b' sheet s s' all one = absurd all
done_more (l ∷ lines) (t ∷ answers) line text b m b' sheet s s' all one = (all.0, (all.1.0, (all.1.1.0, done_more lines answers line text all.0 m b' all.1.0 s s' all.1.1.1 one)))

-- the text of what was replied to a line that was read
abbrev pub Spoken : List ℕ → Result Command TextFault → Book → List ℕ → Result (Option (Settled ℕ)) SessionFault → List ℕ → Type 0
Spoken line (Ok command) b sheet r text = text ≡ reply_text b line command.step sheet r
Spoken line (Err fault) b sheet r text = text ≡ refusal_text (session_refusal (Text fault) 0)

-- what was read, obeyed and told is the line done
obeyed_done : (line text : List ℕ) (read : Result Command TextFault) (before after : Session) (r : Result (Option (Settled ℕ)) SessionFault) (b : Book) → Read line (step_read read) → Holds before.draft b
    → Obeyed read before after r → Spoken line read b after.sheet r text → (b' : Book) × (LineDone line text b b' before.sheet after.sheet × Holds after.draft b')
obeyed_done line text (Err fault) before after r b reads holds did told =
    (b, (record { read = Err fault; reads = reads; done = (told, refl, ap (λ s. s.sheet) did.1) }, subst (λ s. Holds s.draft b) (sym did.1) holds))
obeyed_done line text (Ok command) before after r b reads holds did told =
    let by = did.by_book b holds in
    let a = by.0 in
    (stepped b command.step, (record { read = Ok command.step; reads = reads; done = (a, (by.1.0, told ∙ ap (reply_text b line command.step after.sheet) by.1.1, refl)) }, by.1.2))

-- a refusal leaves draft and sheet
obeyed_kept : (read : Result Command TextFault) (before after : Session) (r : Result (Option (Settled ℕ)) SessionFault) → Obeyed read before after r → is_err r ≡ true
    → (after.draft ≡ before.draft) × (after.sheet ≡ before.sheet)
obeyed_kept (Err fault) before after r did e = (ap (λ s. s.draft) did.1, ap (λ s. s.sheet) did.1)
obeyed_kept (Ok command) before after r did e = did.refused e

-- ok and a fault are two things
ok_err : {A B : Type 0} (x : A) (y : B) → ◌≡◌ {A = Result A B} (Ok x) (Err y) → ⊥
ok_err x y e = false≢true (ap is_err e)

-- what begins with another byte than `no` does is no refusal
pub other_start : (x : ℕ) (rest filled : List ℕ) → (x ≡ 110 → ⊥) → filled ≡ x ∷ rest → take 3 filled ≡ codes "no " → false ≡ true
other_start x rest filled other is e = absurd (other (ap (λ l. get_or l 0 0) (ap (take 3) (sym is) ∙ e)))

-- an answer that begins as a refusal does is one
refuses : (line buffer filled text sheet : List ℕ) (n : ℕ) (read : Result Command TextFault) (before after : Session) (b : Book) (r : Result (Option (Settled ℕ)) SessionFault) → Obeyed read before after r → Spoken line read b sheet r text → Put buffer 0 text filled n
    → take 3 filled ≡ codes "no " → is_err r ≡ true
refuses line buffer filled text sheet n read before after b (Err fault) did told written e = refl
refuses line buffer filled text sheet n (Err fault) before after b (Ok x) did told written e = absurd (ok_err x (Text fault) did.0)
refuses line buffer filled text sheet n (Ok command) before after b (Ok None) did told written e =
    other_start 111 _ filled (λ e. omega arith) (written.written ∙ ap (overwritten buffer 0) told) e
refuses line buffer filled text sheet n (Ok command) before after b (Ok (Some s)) did told written e =
    other_start 115 _ filled (λ e. omega arith) (written.written ∙ ap (overwritten buffer 0) told) e

-- a line was heard, if what was read of it was obeyed and its text is what was written on a page over the buffer
pub heard_one : {before after : Session} {line buffer filled : List ℕ} {n : ℕ} {p q : Page} (read : Result Command TextFault) (r : Result (Option (Settled ℕ)) SessionFault) → Read line (step_read read) → Obeyed read before after r
    → 1280 ≤ length buffer → Fresh buffer p → filled ≡ q.out.now → n ≡ q.end
    → ((b : Book) → Holds before.draft b → (text : List ℕ) × (length text ≤ 1280 × (Written p text q × Spoken line read b after.sheet r text)))
    → HeardOne before after line buffer filled n
heard_one {before} {after} {line} {buffer} {filled} {n} {p} {q} read r reads did long fresh left_there ends texts =
    let put = λ (b : Book) (h : Holds before.draft b). let t = texts b h in put_over {text = t.0} fresh t.1.1.0 left_there ends (omega (arith, t.1.0)) in
    let own_book = book_of before.draft in
    let own = texts own_book (held_book before.draft) in
    let own_put = put own_book (held_book before.draft) in
    record {
      followed = λ lines answers f.
          let told = texts f.book f.holds in
          let written = put f.book f.holds in
          let done = obeyed_done line told.0 read before after r f.book reads f.holds did told.1.1.1 in
          let same : take n filled ≡ told.0 = (λ i. take (written.ended i) (written.written i)) ∙ taken buffer 0 told.0 (omega arith) in
          record {
            book = done.0;
            done = subst (λ t. AllDone (lines ++ (line ∷ [])) (answers ++ (t ∷ [])) new_book done.0 (replicate 32 0) after.sheet) (sym same) (done_more lines answers line told.0 new_book f.book done.0 (replicate 32 0) before.sheet after.sheet f.done done.1.0);
            holds = done.1.1;
          };
      within = omega (arith, own_put.ended, own.1.0);
      rest = (λ i. drop (own_put.ended i) (own_put.written i)) ∙ left buffer 0 own.0 (omega arith) ∙ ap (λ k. drop k buffer) (sym own_put.ended);
      refused = λ e. obeyed_kept read before after r did (refuses line buffer filled own.0 after.sheet n read before after own_book r did own.1.1.1 own_put e);
    }

-- a step that gave a scale was a settling, which leaves the book
pub scale_stays : (b : Book) (step : Step) (a : Answer ℕ) (s t : List ℕ) (x : Settled ℕ) → Answered barlow total 33 b step a s t → replied a ≡ Ok (Some x) → stepped b step ≡ b
scale_stays b (Settle allowance) a s t x by e = refl
scale_stays b (Enter call) (EnteredAnswer (Ok u)) s t x by e = let z : ◌≡◌ {A = ℕ} 0 1 = cc in absurd (omega arith)
scale_stays b (Enter call) (EnteredAnswer (Err f)) s t x by e = let z : ◌≡◌ {A = ℕ} 0 1 = cc in absurd (omega arith)
scale_stays b (Enter call) (SettledAnswer told) s t x by e = absurd by

-- the text of `ok`
pub entered_spoken : (line : List ℕ) (read : Result Command TextFault) (before after : Session) (b : Book) → Obeyed read before after (Ok None)
    → Spoken line read b after.sheet (Ok None) (111 ∷ (107 ∷ (10 ∷ [])))
entered_spoken line (Ok command) before after b did = refl
entered_spoken line (Err fault) before after b did = absurd (ok_err None (Text fault) did.0)

-- a settling leaves the book that the draft holds
pub scale_holds : (read : Result Command TextFault) (before after : Session) (b : Book) (s : Settled ℕ) → Holds before.draft b → Obeyed read before after (Ok (Some s)) → Holds after.draft b
scale_holds (Err fault) before after b s h did = absurd (ok_err (Some s) (Text fault) did.0)
scale_holds (Ok command) before after b s h did =
    let by = did.by_book b h in subst (Holds after.draft) (scale_stays b command.step by.0 before.sheet after.sheet s by.1.0 (sym by.1.1)) by.1.2

-- the text of a scale
pub scale_spoken : (line : List ℕ) (read : Result Command TextFault) (before after : Session) (b : Book) (s : Settled ℕ) → Obeyed read before after (Ok (Some s))
    → Spoken line read b after.sheet (Ok (Some s)) (scale_text b after.sheet s)
scale_spoken line (Ok command) before after b s did = refl
scale_spoken line (Err fault) before after b s did = absurd (ok_err (Some s) (Text fault) did.0)

-- the text of a refusal of a command
pub refused_spoken : (line : List ℕ) (command : Command) (b : Book) (sheet : List ℕ) (fault : SessionFault) (tones : ℕ) (column : Option ℕ)
    → ToldAt command fault tones column → tones ≡ length b.tones → Placed line command.columns
    → Spoken line (Ok command) b sheet (Err fault) (refusal_text (session_refusal fault (unwrap_or column 0)))
refused_spoken line command b sheet fault tones column told count placed =
    ap (λ k. refusal_text (session_refusal fault k)) (ap (λ o. unwrap_or o 0) (told b line count placed) ∙ unwrap_or-slice_get (word_columns line) (fault_word b command.step fault) 0)
