-- A call that is refused, and one that is taken. Assumes nothing.
use Rattle.std.proofs.Common.{◌≡◌, Some, None, Ok, Err, Result, sym, refl, ap, ◌∙◌, subst}
use Rattle.std.proofs.lemmas.Bool.{false≢true}
use Rattle.std.proofs.lemmas.Result.{err_from_is_err_and}
use Rattle.std.specs.Result.{MatchResult, IsErrAnd}
use Rattle.draft.specs.Book.{Book, refusal, entered, answer, unless_refused}
use Rattle.draft.specs.Held.{Holds, ByBook}
use Rattle.draft.specs.declared.call.Call.{Call}
use Rattle.draft.specs.declared.draft.Draft.{Draft}
use Rattle.draft.specs.declared.fault.DraftFault.{DraftFault}

pub refused_by : (d : Draft) (call : Call) (f : DraftFault) → ((b : Book) → Holds d b → refusal b call ≡ Some f) → ByBook d d call (Err f)
refused_by d call f why = record {
  answers = λ b h. sym (ap answer (why b h));
  holds = λ b h. subst (Holds d) (sym (ap (λ o. unless_refused o (entered b call) b) (why b h))) h;
  unchanged = λ e. refl;
}

pub taken_by : (d d' : Draft) (call : Call) → ((b : Book) → Holds d b → refusal b call ≡ None) → ((b : Book) → Holds d b → Holds d' (entered b call)) → ByBook d d' call (Ok tt)
taken_by d d' call none done = record {
  answers = λ b h. sym (ap answer (none b h));
  holds = λ b h. subst (Holds d') (sym (ap (λ o. unless_refused o (entered b call) b) (none b h))) (done b h);
  unchanged = λ e. absurd (false≢true e);
}

-- a call that goes as another goes, and tells of its refusal by a fault of its own
pub as_pushed : {E : Type 0} (d d' : Draft) (call : Call) (f : DraftFault) (pushed : Result (Unit {0}) E) (r : Result (Unit {0}) DraftFault) (P : Unit {0} → Type 0) (Q : E → Type 0)
    → MatchResult pushed P Q → MatchResult pushed (λ x. r ≡ Ok x) (λ _. IsErrAnd r (λ g. g ≡ f)) → (P tt → ByBook d d' call (Ok tt)) → ((e : E) → Q e → ByBook d d' call (Err f)) → ByBook d d' call r
as_pushed d d' call f (Ok x) r P Q went told ok err = subst (ByBook d d' call) (sym told) (ok went)
as_pushed d d' call f (Err e) r P Q went told ok err =
    let p = err_from_is_err_and r told in
    subst (ByBook d d' call) (sym (p.1 ∙ ap Err p.2)) (err e went)
