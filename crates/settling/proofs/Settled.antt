-- From what the search has found to what a settling promises. Assumes nothing.
use Rattle.std.proofs.Common.{◌≡◌, ℕ, ◌<◌, ◌≤◌, List, [], ◌++◌, length, take, drop, Some, None, Ok, Err, Result, Option, sym, refl, ap, ◌∙◌, subst, arith}
use Rattle.std.specs.Option.{ok_or}
use Rattle.std.proofs.lemmas.Bool.Decides.{nat_tests}
use Rattle.draft.specs.Book.{Book}
use Rattle.draft.proofs.Holding.{held_length, held_book}
use Rattle.draft.specs.Held.{entered_tones, Holds, book_of}
use Rattle.draft.specs.declared.draft.Draft.{Draft}
use Rattle.ratio.specs.Parts.{unison}
use Rattle.ratio.specs.declared.ratio.Ratio.{Ratio}
use Rattle.settling.specs.Explore.{explore}
use Rattle.settling.specs.Posed.{rows, problem}
use Rattle.settling.specs.Promise.{ill_put, WellSettled, AnsweredBy, Settling}
use Rattle.settling.specs.Searching.{seen, found, searched, Went, Overspent}
use Rattle.settling.specs.Settling.{Costing, Lawful}
use Rattle.settling.specs.declared.fault.SearchFault.{SearchFault}
use Rattle.settling.specs.declared.fault.SearchFault.TheVariants.{Spent, NoScale}
use Rattle.settling.specs.declared.search.Best.{Best}
use Rattle.settling.specs.declared.search.Search.{Search}
use Rattle.settling.specs.declared.settle.Settled.{Settled}
use Rattle.settling.proofs.Descent.{few_tones}
use Rattle.settling.proofs.Explored.{nothing, Settles, explored}

well_put : (b : Book) (places allowance : ℕ) → allowance ≤ 1000000000 → 33 ≤ places → 0 < length b.tones → ill_put b places allowance ≡ None
well_put b places allowance small wide some = grind (arith, nat_tests)

-- ---- the number of tones

module _ {d : Draft} {n : ℕ} (count : (b : Book) → Holds d b → n ≡ length b.tones) where
  pub few_entered : n ≤ 32
  few_entered = omega (arith, few_tones d, held_length d (book_of d) (held_book d), count (book_of d) (held_book d))

  pub some_tones : (n ≡ 0 → ⊥) → 0 < length (entered_tones d)
  some_tones some = omega (arith, some, held_length d (book_of d) (held_book d), count (book_of d) (held_book d))

-- the fault of a missing value
pub refused : {T E : Type 0} (o : Option T) (x e : E) → o ≡ None → Err x ≡ ok_or o e → x ≡ e
refused o x e none is = cc

module _ {V : Type 0} (dist : Ratio → Ratio → ℕ) (c : Costing V) (law : Lawful c) (d : Draft) (allowance places : ℕ) (small : allowance ≤ 1000000000) (wide : 33 ≤ places) (some : 0 < length (entered_tones d))
    (start : Search V) (none : start.best ≡ None) (begins : start.trials ≡ 0) where
  by_well_put : (b : Book) → Holds d b → (r : Result (Settled V) SearchFault) (before after : List ℕ) → WellSettled dist c b allowance r before after → Settling dist c b allowance places r before after
  by_well_put b h r before after done =
      subst (λ o. AnsweredBy dist c b allowance o r before after) (sym (well_put b places allowance small wide (omega (arith, held_length d b h)))) done

  -- the search from nothing
  from_nothing : (b : Book) → searched dist c b 0 c.nil start ≡ explore (problem dist b) c (rows b) [] [] c.nil nothing
  from_nothing b = ap (explore (problem dist b) c (rows b) [] [] c.nil) (λ i. record { best = ap (seen (length b.tones)) none i; trials = begins i })

  pub spent_settles : Overspent dist c d allowance 0 c.nil start → (b : Book) → Holds d b → (sheet : List ℕ) → Settling dist c b allowance places (Err Spent) sheet sheet
  spent_settles over b h sheet =
      let all_of = explored (problem dist b) unison c law in
      let more : allowance < (explore (problem dist b) c (rows b) [] [] c.nil nothing).trials = subst (λ f. allowance < f.trials) (from_nothing b) (over.over b h) in
      by_well_put b h (Err Spent) sheet sheet (subst (λ n. allowance < n) all_of.tried more, refl)

  module _ (s : Search V) (went : Went dist c d allowance 0 c.nil start s) where
    settles : (b : Book) → Holds d b → Settles (problem dist b) unison c (found (length b.tones) s)
    settles b h = subst (Settles (problem dist b) unison c) (sym (went.finds b h ∙ from_nothing b)) (explored (problem dist b) unison c law)

    pub none_settles : s.best ≡ None → (b : Book) → Holds d b → (sheet : List ℕ) → Settling dist c b allowance places (Err (NoScale s.trials)) sheet sheet
    none_settles e b h sheet =
        let done = settles b h in
        let within = went.within in
        let tried = done.tried in
        by_well_put b h (Err (NoScale s.trials)) sheet sheet
        (omega arith, tried, done.no_choice (ap (seen (length b.tones)) e), refl)

    pub best_settles : (found_best : Best V) → s.best ≡ Some found_best → (b : Book) → Holds d b → (before after : List ℕ) (n : ℕ) → n ≡ length b.tones → length (take n found_best.sheet) ≡ n
        → after ≡ take n found_best.sheet ++ drop n before → Settling dist c b allowance places (Ok (record { cost = found_best.cost; trials = s.trials })) before after
    best_settles found_best e b h before after n count long written =
        let done = settles b h in
        let within = went.within in
        let tried = done.tried in
        let choice = take (length b.tones) found_best.sheet in
        let best = done.best_choice found_best.cost choice (ap (seen (length b.tones)) e) in
        let size : length choice ≡ n = ap (λ m. length (take m found_best.sheet)) (sym count) ∙ long in
        by_well_put b h (Ok (record { cost = found_best.cost; trials = s.trials })) before after (record {
          allowed = omega arith;
          counted = tried;
          choice = choice;
          best = best.0;
          costs = best.1;
          written = written ∙ (ap (λ m. take m found_best.sheet ++ drop n before) count ∙ ap (λ m. choice ++ drop m before) (sym size));
        })
