-- A tone that is changed. Assumes nothing.
use Rattle.std.proofs.Common.{◌≡◌, ℕ, ◌<◌, ◌≤◌, List, length, set, Some, None, Ok, Err, Option, Result, sym, refl, ap, ◌∙◌, subst, MatchOption, MatchResult, MutBor}
use Rattle.std.specs.Fn.{FnOnceReturnsAtMut, Once}
use Rattle.std.specs.List.{slice_get}
use Rattle.ratio.specs.declared.ratio.Ratio.{Ratio}
use Rattle.draft.specs.Book.{Book, candidates_of, refusal, entered, changed}
use Rattle.draft.specs.Changes.{Candidates, ToneChanged}
use Rattle.draft.specs.Held.{Holds, ByBook, listed, entered_tones}
use Rattle.draft.specs.declared.call.Call.{Call}
use Rattle.draft.specs.declared.draft.Draft.{Draft}
use Rattle.draft.specs.declared.fault.DraftFault.{DraftFault}
use Rattle.draft.specs.declared.fault.DraftFault.TheVariants.{NoTone}
use Rattle.draft.specs.declared.tone.Tone.{Tone}
use Rattle.draft.proofs.Going.{refused_by, taken_by}
use Rattle.draft.proofs.Holding.{held_candidates, held_within, held_absent, tone_replaced}

-- a change that ran at a tone which is there, and gave `ran`
pub changed_at : (gives : Tone → Result (Unit {0}) DraftFault → Tone → Type 0) (d d' : Draft) (t : ℕ) (x y : Tone) (ran r : Result (Unit {0}) DraftFault) → slice_get (entered_tones d) t ≡ Some x → gives x ran y → ran ≡ r
    → MatchResult r (λ _. (entered_tones d' ≡ set (entered_tones d) t y) × (d'.bounds ≡ d.bounds)) (λ _. d' ≡ d) → ToneChanged gives d d' t r
changed_at gives d d' t x y ran r is gave same left = record { cases = subst (λ o. MatchOption o ((r ≡ Err NoTone) × (d' ≡ d)) (λ x. (y : Tone) × (gives x r y × MatchResult r (λ _. (entered_tones d' ≡ set (entered_tones d) t y) × (d'.bounds ≡ d.bounds)) (λ _. d' ≡ d)))) (sym is) (y, (subst (λ a. gives x a y) same gave, left)) }

-- A call that changes the candidates of tone t by f, where the tone takes it, and is refused with `no` where the tone refuses it.
module _ (d d' : Draft) (call : Call) (t : ℕ) (f : List Ratio → List Ratio) (no : DraftFault) (Takes Refuses : Tone → Type 0)
    (enters : (b : Book) → entered b call ≡ record { tones = changed t f b.tones; bound = b.bound })
    (absent : (b : Book) → length b.tones ≤ t → refusal b call ≡ Some NoTone)
    (taken : (b : Book) (x : Tone) → t < length b.tones → candidates_of b t ≡ listed x → Takes x → refusal b call ≡ None)
    (refused : (b : Book) (x : Tone) → t < length b.tones → candidates_of b t ≡ listed x → Refuses x → refusal b call ≡ Some no) where
  -- what a change that makes y of x does
  abbrev pub Went : Tone → Tone → Result (Unit {0}) DraftFault → Type 0
  Went x y r = MatchResult r (λ _. Takes x × Candidates x y (f (listed x))) (λ fault. (fault ≡ no) × Refuses x × (y ≡ x))

  -- what stands in the draft after it
  abbrev Left : Tone → Result (Unit {0}) DraftFault → Type 0
  Left y r = MatchResult r (λ _. (entered_tones d' ≡ set (entered_tones d) t y) × (d'.bounds ≡ d.bounds)) (λ _. d' ≡ d)

  at_tone : (x y : Tone) (r : Result (Unit {0}) DraftFault) → slice_get (entered_tones d) t ≡ Some x → Went x y r → Left y r → ByBook d d' call r
  at_tone x y (Ok u) is went left =
      taken_by d d' call (λ b h. taken b x (held_within d b h t x is) (held_candidates d b h t x is) went.0)
      (λ b h. subst (Holds d') (sym (enters b)) (tone_replaced d d' b h t x y f is went.1.pitch went.1.listed left.0 left.1))
  at_tone x y (Err fault) is went left =
      subst (λ e. ByBook d e call (Err fault)) (sym left)
      (refused_by d call fault (λ b h. refused b x (held_within d b h t x is) (held_candidates d b h t x is) went.1 ∙ ap Some (sym went.0)))

  module _ {F : Type 0} (g : Once F (MutBor Tone × Unit {0}) (Result (Unit {0}) DraftFault × (MutBor Tone × Unit {0}))) (change : F) where
    by_tone : (o : Option Tone) (r : Result (Unit {0}) DraftFault) → slice_get (entered_tones d) t ≡ o
        → MatchOption o ((r ≡ Err NoTone) × (d' ≡ d)) (λ x. (y : Tone) × (FnOnceReturnsAtMut g change x r y × Left y r))
        → ((p q : MutBor Tone) → g.post change (p, tt) (r, (q, tt)) → Went p.now q.now r) → ByBook d d' call r
    by_tone None r is done went = subst (ByBook d d' call) (sym done.0) (subst (λ e. ByBook d e call (Err NoTone)) (sym done.1) (refused_by d call NoTone (λ b h. absent b (held_absent d b h t is))))
    by_tone (Some x) r is done went =
        let gave = done.1.0 in
        at_tone x done.0 r is (subst (λ x. Went x done.0 r) gave.shows (subst (λ y. Went gave.shown.now y r) gave.leaves (went gave.shown gave.left gave.met))) done.1.1

    pub by_change : (r : Result (Unit {0}) DraftFault) → ToneChanged (FnOnceReturnsAtMut g change) d d' t r
        → ((p q : MutBor Tone) → g.post change (p, tt) (r, (q, tt)) → Went p.now q.now r) → ByBook d d' call r
    by_change r done went = by_tone (slice_get (entered_tones d) t) r refl done.cases went
