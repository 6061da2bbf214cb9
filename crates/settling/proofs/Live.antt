-- Live starts.
use Rattle.std.proofs.Common.{◌≡◌, ℕ, true, false, not, ◌&&◌, List, ◌++◌, length, take, drop, sym, ap, ◌∙◌, subst, ⊎_elim}
use Rattle.std.proofs.lemmas.List.{length-append}
use Rattle.std.proofs.Math.Seq.{take-add}
use Rattle.std.proofs.ByRecursion.{All-weaker}
use Rattle.std.proofs.lemmas.Bool.{and_parts, and_from, and_cases, cases_Bool, both_ways, not-true, not-false, not_from_false}
use Rattle.settling.specs.Settling.{Costing, Lawful, Problem, Choice, choices, before, all, keeps, cost, bars, live}
use Rattle.settling.proofs.Listed.{all_true, true_all, one_fails, all_choice, every_choice}
use Rattle.settling.proofs.Order.{before_append}
use Rattle.settling.proofs.Kept.{keeps_front, cost_grows}

module _ {R : Type 0} (p : Problem R) (none : R) {V : Type 0} (c : Costing V) where
  -- A choice that comes before the start s, keeps the bounds and costs no more.
  pub record Barred (s : List ℕ) : Type 0 where
    pub bar : List ℕ
    pub choice : Choice p.candidates bar
    pub earlier : before (take (length s) bar) s ≡ true
    pub kept : keeps p none bar ≡ true
    pub cheap : c.no_more (cost p none c bar) (cost p none c s) ≡ true

  bars_parts : (f s : List ℕ) → bars p none c f s ≡ true → (before (take (length s) f) s ≡ true) × (keeps p none f ≡ true) × (c.no_more (cost p none c f) (cost p none c s) ≡ true)
  bars_parts f s e =
      let first = and_parts (before (take (length s) f) s) (keeps p none f && c.no_more (cost p none c f) (cost p none c s)) e in
      let second = and_parts (keeps p none f) (c.no_more (cost p none c f) (cost p none c s)) first.1 in
      (first.0, second.0, second.1)

  pub live_keeps : (s : List ℕ) → live p none c s ≡ true → keeps p none s ≡ true
  live_keeps s e = (and_parts (keeps p none s) (all (λ f. not (bars p none c f s)) (choices p.candidates)) e).0

  -- no choice bars a live start
  pub live_free : (s : List ℕ) → live p none c s ≡ true → Barred s → ⊥
  live_free s e b =
      let none_bars = (and_parts (keeps p none s) (all (λ f. not (bars p none c f s)) (choices p.candidates)) e).1 in
      let free : not (bars p none c b.bar s) ≡ true = every_choice p.candidates (λ f. not (bars p none c f s) ≡ true) (all_true (λ f. not (bars p none c f s)) (choices p.candidates) none_bars) b.bar b.choice in
      both_ways (bars p none c b.bar s) (not-true (bars p none c b.bar s) free)
      (and_from (before (take (length s) b.bar) s) (keeps p none b.bar && c.no_more (cost p none c b.bar) (cost p none c s)) b.earlier
      (and_from (keeps p none b.bar) (c.no_more (cost p none c b.bar) (cost p none c s)) b.kept b.cheap))

  -- a start that keeps the bounds is live if no choice bars it
  pub live_from : (s : List ℕ) → keeps p none s ≡ true → (Barred s → ⊥) → live p none c s ≡ true
  live_from s k h =
      and_from (keeps p none s) (all (λ f. not (bars p none c f s)) (choices p.candidates)) k
      (true_all (λ f. not (bars p none c f s)) (choices p.candidates)
      (All-weaker (Choice p.candidates) (λ f. not (bars p none c f s) ≡ true)
      (λ f ch. ⊎_elim
      (λ e. let parts = bars_parts f s e in absurd (h record { bar = f; choice = ch; earlier = parts.0; kept = parts.1; cheap = parts.2 }))
      (λ e. not_from_false (bars p none c f s) e) (cases_Bool (bars p none c f s)))
      (choices p.candidates) (all_choice p.candidates)))

  -- a start that keeps the bounds and is not live is barred by some choice
  pub dead_barred : (s : List ℕ) → keeps p none s ≡ true → live p none c s ≡ false → Barred s
  dead_barred s k e =
      ⊎_elim (λ broken. absurd (both_ways (keeps p none s) broken k))
      (λ some. let found = one_fails (λ f. not (bars p none c f s)) (Choice p.candidates) (choices p.candidates) (all_choice p.candidates) some in
      let parts = bars_parts found.0 s (not-false (bars p none c found.0 s) found.2) in
      record { bar = found.0; choice = found.1; earlier = parts.0; kept = parts.1; cheap = parts.2 })
      (and_cases (keeps p none s) (all (λ f. not (bars p none c f s)) (choices p.candidates)) e)

  module _ (law : Lawful c) where
    -- what bars a start bars all that extend it
    pub barred_under : (s t : List ℕ) → Barred s → Barred (s ++ t)
    barred_under s t b = record {
      bar = b.bar;
      choice = b.choice;
      earlier = subst (λ l. before l (s ++ t) ≡ true) (sym (ap (λ n. take n b.bar) (length-append s t) ∙ take-add (length s) (length t) b.bar)) (before_append (take (length s) b.bar) s (take (length t) (drop (length s) b.bar)) t b.earlier);
      kept = b.kept;
      cheap = law.transitive (cost p none c b.bar) (cost p none c s) (cost p none c (s ++ t)) b.cheap (cost_grows p none c law s t);
    }

    -- a live start is live up to any tone
    pub live_front : (s t : List ℕ) → live p none c (s ++ t) ≡ true → live p none c s ≡ true
    live_front s t e = live_from s (keeps_front p none s t (live_keeps (s ++ t) e)) (λ b. live_free (s ++ t) e (barred_under s t b))

    -- a start that is not live has no live extension
    pub dead_under : (s t : List ℕ) → live p none c s ≡ false → live p none c (s ++ t) ≡ false
    dead_under s t e =
        ⊎_elim (λ l. absurd (both_ways (live p none c s) e (live_front s t l))) (λ d. d) (cases_Bool (live p none c (s ++ t)))

    -- where a start is not live, each kept choice that extends it costs no less than some kept choice before it
    pub dead_no_better : (s t : List ℕ) → live p none c s ≡ false → keeps p none (s ++ t) ≡ true → Barred (s ++ t)
    dead_no_better s t e k = barred_under s t (dead_barred s (keeps_front p none s t k) e)
