-- What the words of a line tell is what the line is read as.
use Rattle.std.proofs.Common.{◌≡◌, ℕ, zero, suc, ◌<◌, ◌≤◌, List, [], map, length, get_or, IsErrAnd, Ok, Err, Result, sym, ap, ◌∙◌, subst, arith}
use lib.ListN.{length-map}
use borrow.Author.Count.{below_more}
use Rattle.std.proofs.lemmas.List.{get_or-map}
use Rattle.std.proofs.lemmas.Result.{err_from_is_err_and}
use Rattle.settling.specs.declared.step.Step.{Step}
use Rattle.command.specs.Reading.{verb_word, arguments, HasForm, verb_of, Begins, WellSpaced, Says}
use Rattle.command.specs.Telling.{Given, Tell}
use Rattle.command.specs.Words.{words, word, word_column}
use Rattle.command.specs.declared.command.Verb.{Verb}
use Rattle.command.specs.declared.command.Verb.TheVariants.{Tone, Try, Strike, Bound, Level, Settle}
use Rattle.command.specs.declared.fault.TextFault.{TextFault}
use Rattle.command.specs.declared.fault.TextFault.TheVariants.{WrongWords, NoForm}
use Rattle.command.specs.declared.word.Word.{Word}
use Rattle.command.proofs.Lines.{blank, one_to_three, counted, all_held, words_are, full_words, views_columns}

-- words of another number than the command wants
pub wrong_count : (v : Verb) (ws : List Word) → (length ws ≡ arguments v → ⊥) → Tell v ws (Err WrongWords)
wrong_count v ws n = record { told = λ line name g. (v, (g.begins, λ s. n (omega (arith, counted line name ws g.held, s.count, (one_to_three v).1)))) }

-- ---- as many words as the command wants

verb_some : (v : Verb) → 0 < length (verb_word v)
verb_some Tone = omega arith
verb_some Try = omega arith
verb_some Strike = omega arith
verb_some Bound = omega arith
verb_some Level = omega arith
verb_some Settle = omega arith

-- the line has the spaces and the words that the command wants, and these words stand behind the name
pub record Laid (line : List ℕ) (v : Verb) (ws : List Word) : Type 0 where
  pub begins : Begins line v
  pub spaced : WellSpaced line v
  pub is_word : (k : ℕ) → k < length ws → word line (suc k) ≡ (get_or ws k blank).bytes.now
  pub is_column : (k : ℕ) → k < length ws → word_column line (suc k) ≡ (get_or ws k blank).column

pub laid : (line : List ℕ) (v : Verb) (name : Word) (ws : List Word) → Given line v name ws → length ws ≡ arguments v → Laid line v ws
laid line v name ws g n =
    let few : length (words line) ≤ 5 = omega (arith, counted line name ws g.held, (one_to_three v).1) in
    let are = words_are line name ws g.held few in
    let all = all_held line name ws g.held few in
    let first : name.bytes.now ≡ verb_word v = sym (ap (λ us. get_or us 0 []) are) ∙ g.begins.named in
    record {
      begins = g.begins;
      spaced = record {
        count = ap length are ∙ ap suc (length-map ws (λ w. w.bytes.now) ∙ n);
        single = rw are ((λ e. omega (arith, ap length first, ap length e, verb_some v)), full_words ws g.full);
      };
      is_word = λ k lt. ap (λ us. get_or us (suc k) []) are ∙ get_or-map (λ w. w.bytes.now) ws k blank [] lt;
      is_column = λ k lt. ap (λ us. get_or (map (λ u. u.1) us) (suc k) 0) all ∙ ap (λ us. get_or us k 0) (views_columns ws) ∙ get_or-map (λ w. w.column) ws k blank 0 lt;
    }

-- the step that the words write
pub step_told : (v : Verb) (ws : List Word) (step : Step) → v ≡ verb_of step → length ws ≡ arguments (verb_of step) → ((line : List ℕ) → Laid line (verb_of step) ws → Says line step) → Tell v ws (Ok step)
step_told v ws step e n says =
    rw e (record { told = λ line name g. let l = laid line (verb_of step) name ws g n in (l.begins, l.spaced, says line l) })

before : (line : List ℕ) (v : Verb) (ws : List Word) → Laid line v ws → (k : ℕ) → k < length ws → ((j : ℕ) → j < k → HasForm v (suc j) (get_or ws j blank).bytes.now) → (j : ℕ) → 1 ≤ j → j < suc k → HasForm v j (word line j)
before line v ws l k lt f zero p q = absurd (omega arith)
before line v ws l k lt f (suc j) p q = subst (HasForm v (suc j)) (sym (l.is_word j (omega arith))) (f j (omega arith))

-- the word that is the first to lack its form
amiss : (v u : Verb) (ws : List Word) (k : ℕ) (r : Result Step TextFault) (f : TextFault) → IsErrAnd r (λ y. y ≡ f) → f ≡ NoForm (get_or ws k blank).column → v ≡ u → length ws ≡ arguments u → k < length ws
    → ((j : ℕ) → j < k → HasForm u (suc j) (get_or ws j blank).bytes.now) → (HasForm u (suc k) (get_or ws k blank).bytes.now → ⊥) → Tell v ws r
amiss v u ws k r f h e is n lt good bad =
    let p = err_from_is_err_and r h in
    rw (p.1 ∙ ap Err (p.2 ∙ e), is) (record {
      told = λ line name g.
          let l = laid line u name ws g n in
          (u, (l.begins, l.spaced, (suc k, (record { within = (omega arith, omega arith); before = before line u ws l k lt good; amiss = λ x. bad (subst (HasForm u (suc k)) (l.is_word k lt) x) }, sym (l.is_column k lt)))));
    })

module _ (v u : Verb) (ws : List Word) (r : Result Step TextFault) (f : TextFault) (h : IsErrAnd r (λ y. y ≡ f)) (is : v ≡ u) (n : length ws ≡ arguments u) where
  abbrev Formed : ℕ → Type 0
  Formed k = HasForm u (suc k) (get_or ws k blank).bytes.now

  pub first_amiss : f ≡ NoForm (get_or ws 0 blank).column → (Formed 0 → ⊥) → Tell v ws r
  first_amiss e bad = amiss v u ws 0 r f h e is n (omega (arith, (one_to_three u).0)) (λ j p. absurd (omega arith)) bad

  pub second_amiss : f ≡ NoForm (get_or ws 1 blank).column → 2 ≤ length ws → Formed 0 → (Formed 1 → ⊥) → Tell v ws r
  second_amiss e some one bad = amiss v u ws 1 r f h e is n (omega arith) (below_more Formed 0 (λ j p. absurd (omega arith)) one) bad

  pub third_amiss : f ≡ NoForm (get_or ws 2 blank).column → 3 ≤ length ws → Formed 0 → Formed 1 → (Formed 2 → ⊥) → Tell v ws r
  third_amiss e some one two bad = amiss v u ws 2 r f h e is n (omega arith) (below_more Formed 1 (below_more Formed 0 (λ j p. absurd (omega arith)) one) two) bad
