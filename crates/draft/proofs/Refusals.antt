-- When the book refuses, condition by condition. Assumes nothing.
use Rattle.std.proofs.Common.{◌≡◌, ℕ, ◌<◌, ◌≤◌, leb, [], ◌∷◌, length, ℤ, nat_abs, Some, None, Ok, Option, ap, ◌∙◌, arith}
use Rattle.std.proofs.lemmas.Bool.Decides.{nat_tests}
use Rattle.draft.specs.declared.fault.DraftFault.{DraftFault}
use Rattle.ratio.specs.Computed.{entry}
use Rattle.ratio.specs.declared.ratio.Ratio.{Ratio}
use Rattle.draft.specs.Book.{Book, refusal, candidates_of, absent, first_fault, entry_fault}
use Rattle.draft.specs.Changes.{pair_fault}
use Rattle.draft.specs.declared.call.Call.TheVariants.{Tone, Try, Strike, Bound, Level}
use Rattle.draft.specs.declared.fault.DraftFault.TheVariants.{NoTone, NoCandidate, TonesFull, CandidatesFull}

module _ (b : Book) where
  -- what is left to test of a candidate whose ratio is there
  abbrev rest : ℕ → Option DraftFault
  rest t = first_fault ((absent b t, NoTone) ∷ ((leb 8 (length (candidates_of b t)), CandidatesFull) ∷ []))

  pub tone_full : (pitch : ℤ) → nat_abs pitch ≤ 12000000 → 32 ≤ length b.tones → refusal b (Tone pitch) ≡ Some TonesFull
  tone_full pitch h i = grind (arith, nat_tests)

  pub tone_taken : (pitch : ℤ) → nat_abs pitch ≤ 12000000 → length b.tones < 32 → refusal b (Tone pitch) ≡ None
  tone_taken pitch h i = grind (arith, nat_tests)

  pub strike_absent : (t k : ℕ) → length b.tones ≤ t → refusal b (Strike t k) ≡ Some NoTone
  strike_absent t k h = grind (arith, nat_tests)

  pub strike_none : (t k : ℕ) → t < length b.tones → length (candidates_of b t) ≤ k → refusal b (Strike t k) ≡ Some NoCandidate
  strike_none t k h i = grind (arith, nat_tests)

  pub strike_taken : (t k : ℕ) → t < length b.tones → k < length (candidates_of b t) → refusal b (Strike t k) ≡ None
  strike_taken t k h i = grind (arith, nat_tests)

  pub try_absent : (t n d : ℕ) (r : Ratio) → entry n d ≡ Ok r → length b.tones ≤ t → refusal b (Try t n d) ≡ Some NoTone
  try_absent t n d r e h = ap (λ x. entry_fault x (rest t)) e ∙ grind (arith, nat_tests)

  pub try_full : (t n d : ℕ) (r : Ratio) → entry n d ≡ Ok r → t < length b.tones → 8 ≤ length (candidates_of b t) → refusal b (Try t n d) ≡ Some CandidatesFull
  try_full t n d r e h i = ap (λ x. entry_fault x (rest t)) e ∙ grind (arith, nat_tests)

  pub try_taken : (t n d : ℕ) (r : Ratio) → entry n d ≡ Ok r → t < length b.tones → length (candidates_of b t) < 8 → refusal b (Try t n d) ≡ None
  try_taken t n d r e h i = ap (λ x. entry_fault x (rest t)) e ∙ grind (arith, nat_tests)

  pub bound_within : (t u x : ℕ) → x ≤ 1073741824 → refusal b (Bound t u x) ≡ pair_fault b t u
  bound_within t u x h = grind (arith, nat_tests)

  pub level_taken : (x : ℕ) → x ≤ 1073741824 → refusal b (Level x) ≡ None
  level_taken x h = grind (arith, nat_tests)
