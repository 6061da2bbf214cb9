-- The ratios of the figures, and each row. Assumes nothing.
use Rattle.std.proofs.Common.{◌≡◌, ℕ, ◌<◌, ◌≤◌, List, [], ◌∷◌, ◌++◌, length, drop, ℤ, pos, negsuc, Some, None, Ok, Err, Result, sym, refl, ◌∙◌, subst, arith, lit<, lit≤}
use Rattle.draft.specs.Book.{new_book, after}
use Rattle.draft.specs.declared.call.Call.{Call}
use Rattle.settling.specs.Costings.{total, worst, worst_then_total}
use Rattle.settling.specs.Explore.{Found, explore}
use Rattle.settling.specs.Posed.{rows, problem}
use Rattle.settling.specs.Promise.{ill_put, WellSettled, AnsweredBy, Settling}
use Rattle.settling.specs.Settling.{Costing, Lawful}
use Rattle.settling.specs.declared.fault.SearchFault.{SearchFault}
use Rattle.settling.specs.declared.fault.SearchFault.TheVariants.{Spent, NoScale}
use Rattle.settling.specs.declared.settle.Settled.{Settled}
use Rattle.settling.proofs.Costings.{total_lawful, worst_lawful, worst_then_total_lawful}
use Rattle.settling.proofs.Explored as Search
use Rattle.settling.proofs.Explored.{nothing, explored}
use Rattle.ratio.specs.declared.ratio.Ratio.{Ratio}
use Rattle.ratio.specs.Entry.{PartsFit, Entered}
use Rattle.ratio.specs.Parts.{unison, octaveless}
use Rattle.checked.specs.Figures.{Settles, triad, lone, bare, barlow, AllHold, figures}

-- the exponents of the first three primes, and none of the others
abbrev of : ℤ → ℤ → ℤ → List ℤ
of two three five = two ∷ (three ∷ (five ∷ (pos 0 ∷ (pos 0 ∷ (pos 0 ∷ [])))))

fit : {n d : ℕ} → 0 < n → 0 < d → n ≤ 4294967295 → d ≤ 4294967295 → PartsFit n d
fit a b c d = record { numerator_some = a; denominator_some = b; numerator_small = c; denominator_small = d }

octave : Ratio
octave = record { exponents = of (pos 1) (pos 0) (pos 0); six = refl; numerator_fits = lit≤ tt; denominator_fits = lit≤ tt }

fifth : Ratio
fifth = record { exponents = of (negsuc 0) (pos 1) (pos 0); six = refl; numerator_fits = lit≤ tt; denominator_fits = lit≤ tt }

third : Ratio
third = record { exponents = of (negsuc 1) (pos 0) (pos 1); six = refl; numerator_fits = lit≤ tt; denominator_fits = lit≤ tt }

tritone : Ratio
tritone = record { exponents = of (negsuc 4) (pos 2) (pos 1); six = refl; numerator_fits = lit≤ tt; denominator_fits = lit≤ tt }

-- ---- what a settling comes to, by the search as a function

module _ {V : Type 0} (distance : Ratio → Ratio → ℕ) (c : Costing V) (law : Lawful c) (calls : List Call) (allowance : ℕ) where
  abbrev found : Found V
  found = explore (problem distance (after new_book calls)) c (rows (after new_book calls)) [] [] c.nil nothing

  settles : Search.Settles (problem distance (after new_book calls)) unison c found
  settles = explored (problem distance (after new_book calls)) unison c law

  module _ (well_put : ill_put (after new_book calls) 33 allowance ≡ None) where
    by_well_put : (r : Result (Settled V) SearchFault) (before last : List ℕ) → WellSettled distance c (after new_book calls) allowance r before last → Settling distance c (after new_book calls) allowance 33 r before last
    by_well_put r before last done = subst (λ o. AnsweredBy distance c (after new_book calls) allowance o r before last) (sym well_put) done

    settled_by : (v : V) (choice : List ℕ) (n : ℕ) → found.best ≡ Some (v, choice) → found.trials ≡ n → n ≤ allowance → Settles distance c calls allowance (Ok (record { cost = v; trials = n })) choice
    settled_by v choice n e tried less sheet =
        let best = settles.best_choice v choice e in
        let all = settles.tried in
        by_well_put (Ok (record { cost = v; trials = n })) sheet (choice ++ drop (length choice) sheet) (record {
          allowed = omega arith;
          counted = sym tried ∙ all;
          choice = choice;
          best = best.0;
          costs = best.1;
          written = refl;
        })

    none_by : (n : ℕ) → found.best ≡ None → found.trials ≡ n → n ≤ allowance → Settles distance c calls allowance (Err (NoScale n)) []
    none_by n e tried less sheet = let all = settles.tried in by_well_put (Err (NoScale n)) sheet sheet (omega arith, sym tried ∙ all, settles.no_choice e, refl)

    spent_by : (n : ℕ) → found.trials ≡ n → allowance < n → Settles distance c calls allowance (Err Spent) []
    spent_by n tried more sheet = let all = settles.tried in by_well_put (Err Spent) sheet sheet (omega arith, refl)

pub all_hold : AllHold figures
unfolding octave fifth third tritone octaveless explore
all_hold =
    let one : Entered 1 1 (Ok unison) = (fit (lit< tt) (lit< tt) (lit≤ tt) (lit≤ tt), refl) in
    let fifth_entered : Entered 3 2 (Ok fifth) = (fit (lit< tt) (lit< tt) (lit≤ tt) (lit≤ tt), refl) in
    let tritone_entered : Entered 45 32 (Ok tritone) = (fit (lit< tt) (lit< tt) (lit≤ tt) (lit≤ tt), refl) in (
      record { from = unison; to = fifth; from_entered = one; to_entered = fifth_entered; is = refl },
      (
        record { from = fifth; to = third; from_entered = fifth_entered; to_entered = (fit (lit< tt) (lit< tt) (lit≤ tt) (lit≤ tt), refl); is = refl },
        (
          record { from = unison; to = tritone; from_entered = one; to_entered = tritone_entered; is = refl },
          (
            record { from = unison; to = octave; from_entered = one; to_entered = (fit (lit< tt) (lit< tt) (lit≤ tt) (lit≤ tt), refl); is = refl },
            (
              record { from = unison; to = tritone; from_entered = one; to_entered = tritone_entered; is = refl },
              (
                settled_by barlow total total_lawful (triad 600600) 1000000000 refl 664664 (0 ∷ (0 ∷ (0 ∷ []))) 7 refl refl (lit≤ tt),
                (settled_by barlow worst worst_lawful (triad 600600) 1000000000 refl 302302 (0 ∷ (0 ∷ (0 ∷ []))) 5 refl refl (lit≤ tt), (settled_by barlow worst_then_total worst_then_total_lawful (triad 600600) 1000000000 refl (302302, 664664) (0 ∷ (0 ∷ (0 ∷ []))) 5 refl refl (lit≤ tt), (settled_by barlow total total_lawful (triad 302302) 1000000000 refl 664664 (0 ∷ (0 ∷ (0 ∷ []))) 5 refl refl (lit≤ tt), ((none_by barlow total total_lawful (triad 302301) 5 refl 5 refl refl (lit≤ tt), spent_by barlow total total_lawful (triad 302301) 4 refl 5 refl (lit< tt)), (settled_by barlow total total_lawful lone 1000000000 refl 0 (0 ∷ []) 2 refl refl (lit≤ tt), (none_by barlow total total_lawful bare 0 refl 0 refl refl (lit≤ tt), tt)))))),
              ),
            ),
          ),
        ),
      ),
    )
