-- What every book keeps. Assumes nothing.
use Rattle.std.proofs.Common.{◌≡◌, ℕ, zero, suc, ◌<◌, ◌≤◌, cond, leb, List, [], ◌∷◌, ◌++◌, map, length, get_or, ℤ, nat_abs, Some, None, Ok, Err, Option, Result, sym, refl, ap, ◌∙◌, subst, arith, length-append, length-drop, length-take}
use Rattle.std.specs.List.{remove, AllByRecursion}
use Rattle.std.proofs.ByRecursion.{All-push}
use Rattle.std.proofs.lemmas.Bool.{cond_both}
use Rattle.std.proofs.lemmas.Bool.Decides.{nat_tests}
use Rattle.ratio.specs.Computed.{entry}
use Rattle.ratio.specs.declared.ratio.Ratio.{Ratio}
use Rattle.ratio.specs.declared.fault.RatioFault.{RatioFault}
use Rattle.draft.specs.Book.{Noted, Book, new_book, candidates_of, absent, first_fault, entry_fault, refusal, changed, entered_ratio, same_pair, entered, fed, unless_refused, after, Sound}
use Rattle.draft.specs.declared.call.Call.{Call}
use Rattle.draft.specs.declared.call.Call.TheVariants.{Tone, Try, Strike, Bound, Level}
use Rattle.draft.specs.declared.fault.DraftFault.{DraftFault}
use Rattle.draft.specs.declared.fault.DraftFault.TheVariants.{NoTone, CandidatesFull}

length_changed : (t : ℕ) (f : List Ratio → List Ratio) (ns : List Noted) → length (changed t f ns) ≡ length ns
length_changed t f [] = refl
length_changed zero f (n ∷ ns) = refl
length_changed (suc t) f (n ∷ ns) = ap suc (length_changed t f ns)

pitches_changed : (t : ℕ) (f : List Ratio → List Ratio) (ns : List Noted) → AllByRecursion (λ n. nat_abs n.pitch ≤ 12000000) ns → AllByRecursion (λ n. nat_abs n.pitch ≤ 12000000) (changed t f ns)
pitches_changed t f [] a = tt
pitches_changed zero f (n ∷ ns) a = a
pitches_changed (suc t) f (n ∷ ns) a = (a.0, pitches_changed t f ns a.1)

-- the candidates of a tone, whether it is there or not
few_changed : (t : ℕ) (f : List Ratio → List Ratio) (ns : List Noted) → AllByRecursion (λ n. length n.candidates ≤ 8) ns
    → ((cs : List Ratio) → cs ≡ get_or (map (λ n. n.candidates) ns) t [] → length cs ≤ 8 → length (f cs) ≤ 8) → AllByRecursion (λ n. length n.candidates ≤ 8) (changed t f ns)
few_changed t f [] a g = tt
few_changed zero f (n ∷ ns) a g = (g n.candidates refl a.0, a.1)
few_changed (suc t) f (n ∷ ns) a g = (a.0, few_changed t f ns a.1 g)

pub sound_new : Sound new_book
sound_new = record { few_tones = omega arith; pitches = tt; few_candidates = tt; bounds = λ i j. omega arith; both_ways = λ i j. refl }

-- what holds where nothing is refused
tone_allowed : (b : Book) (pitch : ℤ) → refusal b (Tone pitch) ≡ None → (nat_abs pitch ≤ 12000000) × (length b.tones < 32)
tone_allowed b pitch e = (grind (arith, nat_tests), grind (arith, nat_tests))

try_allowed : (b : Book) (t : ℕ) (r : Result Ratio RatioFault) → entry_fault r (first_fault ((absent b t, NoTone) ∷ ((leb 8 (length (candidates_of b t)), CandidatesFull) ∷ []))) ≡ None → length (candidates_of b t) < 8
try_allowed b t (Ok r) e = grind (arith, nat_tests)
try_allowed b t (Err f) e = grind arith

bound_allowed : (b : Book) (t u x : ℕ) → refusal b (Bound t u x) ≡ None → x ≤ 1073741824
bound_allowed b t u x e = grind (arith, nat_tests)

level_allowed : (b : Book) (x : ℕ) → refusal b (Level x) ≡ None → x ≤ 1073741824
level_allowed b x e = grind (arith, nat_tests)

one_more : (cs : List Ratio) (r : Result Ratio RatioFault) → length cs < 8 → length (cs ++ entered_ratio r) ≤ 8
one_more cs (Ok r) h = omega (arith, length-append cs (r ∷ []))
one_more cs (Err f) h = omega (arith, length-append cs [])

one_fewer : (cs : List Ratio) (k : ℕ) → length cs ≤ 8 → length (remove cs k) ≤ 8
one_fewer cs k h = simp (length-append, length-take, length-drop) (omega arith)

pair_either : (t u i j : ℕ) → same_pair t u i j ≡ same_pair t u j i
pair_either t u i j = grind (arith, nat_tests)

entered_sound : (b : Book) (c : Call) → refusal b c ≡ None → Sound b → Sound (entered b c)
entered_sound b (Tone pitch) e s = record {
  few_tones = omega (arith, length-append b.tones (record { pitch = pitch; candidates = [] } ∷ []), (tone_allowed b pitch e).1);
  pitches = All-push (λ n. nat_abs n.pitch ≤ 12000000) b.tones (record { pitch = pitch; candidates = [] }) s.pitches (tone_allowed b pitch e).0;
  few_candidates = All-push (λ n. length n.candidates ≤ 8) b.tones (record { pitch = pitch; candidates = [] }) s.few_candidates (omega arith);
  bounds = s.bounds;
  both_ways = s.both_ways;
}
entered_sound b (Try t n d) e s = record {
  few_tones = omega (arith, length_changed t (λ cs. cs ++ entered_ratio (entry n d)) b.tones, s.few_tones);
  pitches = pitches_changed t (λ cs. cs ++ entered_ratio (entry n d)) b.tones s.pitches;
  few_candidates = few_changed t (λ cs. cs ++ entered_ratio (entry n d)) b.tones s.few_candidates (λ cs is few. one_more cs (entry n d) (subst (λ l. length l < 8) (sym is) (try_allowed b t (entry n d) e)));
  bounds = s.bounds;
  both_ways = s.both_ways;
}
entered_sound b (Strike t k) e s = record {
  few_tones = omega (arith, length_changed t (λ cs. remove cs k) b.tones, s.few_tones);
  pitches = pitches_changed t (λ cs. remove cs k) b.tones s.pitches;
  few_candidates = few_changed t (λ cs. remove cs k) b.tones s.few_candidates (λ cs is few. one_fewer cs k few);
  bounds = s.bounds;
  both_ways = s.both_ways;
}
entered_sound b (Bound t u x) e s = record {
  few_tones = s.few_tones;
  pitches = s.pitches;
  few_candidates = s.few_candidates;
  bounds = λ i j. cond_both (same_pair t u i j) x (b.bound i j) (λ n. n ≤ 1073741824) (λ _. bound_allowed b t u x e) (λ _. s.bounds i j);
  both_ways = λ i j. ap (λ p. cond p x (b.bound i j)) (pair_either t u i j) ∙ ap (cond (same_pair t u j i) x) (s.both_ways i j);
}
entered_sound b (Level x) e s = record {
  few_tones = s.few_tones;
  pitches = s.pitches;
  few_candidates = s.few_candidates;
  bounds = λ i j. level_allowed b x e;
  both_ways = λ i j. refl;
}

by_refusal : (b : Book) (c : Call) (o : Option DraftFault) → refusal b c ≡ o → Sound b → Sound (unless_refused o (entered b c) b)
by_refusal b c None e s = entered_sound b c e s
by_refusal b c (Some f) e s = s

pub sound_after : (b : Book) → Sound b → (cs : List Call) → Sound (after b cs)
sound_after b s [] = s
sound_after b s (c ∷ cs) = sound_after (fed b c) (by_refusal b c (refusal b c) refl s) cs
