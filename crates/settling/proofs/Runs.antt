-- A run of steps, one more at a time. Assumes nothing.
use Rattle.std.proofs.Common.{◌≡◌, ℕ, ◌+◌, ◌<◌, ◌≤◌, min, List, [], ◌∷◌, ◌++◌, length, get_or, take, drop, set, Result, sym, refl, ap, ◌∙◌, subst, arith}
use Rattle.std.proofs.lemmas.List.{take_more, take_more_set, length-take-le, get_or-take, drop-set-lt, drop-drop, length-map}
use Rattle.draft.specs.Book.{Noted, Book, new_book, Sound}
use Rattle.draft.proofs.Sound.{sound_new, sound_after}
use Rattle.ratio.specs.Parts.{unison}
use Rattle.settling.specs.Graef.{InGraefsWords}
use Rattle.settling.specs.Posed.{problem}
use Rattle.settling.proofs.Graef.{in_graefs_words}
use Rattle.draft.specs.Held.{Holds, ByBook}
use Rattle.draft.specs.declared.call.Call.{Call}
use Rattle.draft.specs.declared.fault.DraftFault.{DraftFault}
use Rattle.settling.specs.Promise.{Settling}
use Rattle.settling.specs.declared.fault.SearchFault.{SearchFault}
use Rattle.settling.specs.declared.settle.Settled.{Settled as Scale}
use Rattle.settling.specs.declared.step.Answer.TheVariants.{Entered, Settled}
use Rattle.settling.specs.declared.step.Step.TheVariants.{Enter, Settle}
use Rattle.draft.specs.declared.draft.Draft.{Draft}
use Rattle.ratio.specs.declared.ratio.Ratio.{Ratio}
use Rattle.settling.specs.Run.{stepped, after, Answered, Stepped, Run, Replayed}
use Rattle.settling.specs.Settling.{Costing}
use Rattle.settling.specs.declared.step.Answer.{Answer}
use Rattle.settling.specs.declared.step.Entry.{Entry}
use Rattle.settling.specs.declared.step.Step.{Step}

pub after_more : (b : Book) (ss : List Step) (s : Step) → after b (ss ++ (s ∷ [])) ≡ stepped (after b ss) s
after_more b [] s = refl
after_more b (x ∷ ss) s = after_more (stepped b x) ss s

stepped_sound : (b : Book) (s : Step) → Sound b → Sound (stepped b s)
stepped_sound b (Enter call) h = sound_after b h (call ∷ [])
stepped_sound b (Settle allowance) h = h

sound_steps : (b : Book) → Sound b → (ss : List Step) → Sound (after b ss)
sound_steps b h [] = h
sound_steps b h (s ∷ ss) = sound_steps (stepped b s) (stepped_sound b s h) ss

-- every run's book keeps what a book keeps
pub sound_run : (ss : List Step) → Sound (after new_book ss)
sound_run = sound_steps new_book sound_new

pub graefs_run : (distance : Ratio → Ratio → ℕ) → ((x y : Ratio) → distance x y ≡ distance y x) → ((x y : Ratio) → distance x y ≤ 1073741824) → (ss : List Step)
    → InGraefsWords (problem distance (after new_book ss)) unison
graefs_run distance both bounded ss =
    let b = after new_book ss in
    let h = sound_run ss in
    in_graefs_words (problem distance b) unison (record { distances = both; bounds = h.both_ways }) bounded (omega (arith, h.few_tones, length-map b.tones (λ (n : Noted). n.candidates)))

-- as many are taken as there are steps, and places for their entries
module _ {S E : Type 0} (steps : List S) (before : List E) {count : ℕ} (least : count ≡ min (length steps) (length before)) where
  pub all_taken : length (take count steps) ≡ count
  all_taken = length-take-le count steps (omega arith)

  pub step_there : count ≤ length steps
  step_there = omega arith

  pub place_there : {number : ℕ} → number < length (take count steps) → number < length before
  place_there inside = omega (arith, all_taken)

module _ {V : Type 0} (distance : Ratio → Ratio → ℕ) (c : Costing V) (places : ℕ) where
  run_more : (b : Book) (ss : List Step) (es : List (Entry V)) (s : Step) (e : Entry V) (before last : List ℕ) → Run distance c places b ss es before last
      → Answered distance c places (after b ss) s e.answer last e.sheet → Run distance c places b (ss ++ (s ∷ [])) (es ++ (e ∷ [])) before e.sheet
  run_more b [] [] s e before last run by = (subst (λ x. Answered distance c places b s e.answer x e.sheet) run by, refl)
  run_more b [] (x ∷ es) s e before last run by = absurd run
  run_more b (x ∷ ss) [] s e before last run by = absurd run
  run_more b (x ∷ ss) (y ∷ es) s e before last run by = (run.0, run_more (stepped b x) ss es s e y.sheet last run.1 by)

  pub by_entry : (s : Step) (call : Call) → s ≡ Enter call → (d d' : Draft) (r : Result (Unit {0}) DraftFault) (sheet : List ℕ) → ByBook d d' call r
      → Stepped distance c places s d d' (Entered r) sheet sheet
  by_entry s call is d d' r sheet by = subst (λ x. Stepped distance c places x d d' (Entered r) sheet sheet) (sym is) (λ b h. ((by.answers b h, refl), by.holds b h))

  pub by_settling : (s : Step) (allowance : ℕ) → s ≡ Settle allowance → (d : Draft) (r : Result (Scale V) SearchFault) (before last : List ℕ)
      → ((b : Book) → Holds d b → Settling distance c b allowance places r before last) → Stepped distance c places s d d (Settled r) before last
  by_settling s allowance is d r before last settles = subst (λ x. Stepped distance c places x d d (Settled r) before last) (sym is) (λ b h. (settles b h, h))

  -- the first steps are taken
  pub record Begun (steps : List Step) (before : List (Entry V)) (sheet : List ℕ) (number : ℕ) (written : List (Entry V)) (last : List ℕ) (d : Draft) : Type 0 where
    pub run : Run distance c places new_book (take number steps) (take number written) sheet last
    pub stayed : drop number written ≡ drop number before
    pub holds : Holds d (after new_book (take number steps))

  pub begun_more : {steps : List Step} {before written : List (Entry V)} {sheet last last' : List ℕ} {number : ℕ} {d d' : Draft} (s : Step) (a : Answer V) {room count : ℕ} → room ≡ places
      → count ≤ length steps → number < length (take count steps) → number < length written → Begun steps before sheet number written last d
      → Stepped distance c room (get_or (take count steps) number s) d d' a last last'
      → Begun steps before sheet (number + 1) (set written number (record { answer = a; sheet = last' })) last' d'
  begun_more {steps} {before} {written} {sheet} {last} {last'} {number} {d} {d'} s a {room} {count} same few h i g by =
      let here : Step = get_or steps number s in
      let under : number < count = omega (arith, length-take-le count steps few) in
      let at = get_or-take count steps number s under in
      let e : Entry V = record { answer = a; sheet = last' } in
      let more = take_more steps number s (omega arith) in
      let front = take_more_set written number e i in
      let told = subst (λ n. Stepped distance c n here d d' a last last') same (subst (λ x. Stepped distance c room x d d' a last last') at by) (after new_book (take number steps)) g.holds in
      let run = run_more new_book (take number steps) (take number written) here e sheet last g.run told.0 in
      record {
        run = subst (λ es. Run distance c places new_book (take (number + 1) steps) es sheet last') (sym front) (subst (λ ss. Run distance c places new_book ss (take number written ++ (e ∷ [])) sheet last') (sym more) run);
        stayed = drop-set-lt (number + 1) written number e (omega arith) ∙ (sym (drop-drop 1 number written) ∙ (ap (drop 1) g.stayed ∙ drop-drop 1 number before));
        holds = subst (Holds d') (sym (after_more new_book (take number steps) here) ∙ ap (after new_book) (sym more)) told.1;
      }

  pub begun_all : {steps : List Step} {before written : List (Entry V)} {sheet last : List ℕ} {number : ℕ} {d : Draft} → number ≡ min (length steps) (length before)
      → Begun steps before sheet number written last d → Replayed distance c places steps before written sheet last d
  begun_all {steps} {before} {written} {sheet} {last} {number} {d} e g =
      let g' = subst (λ n. Begun steps before sheet n written last d) e g in
      record { run = g'.run; stayed = g'.stayed; holds = g'.holds }
