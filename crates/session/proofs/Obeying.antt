-- A step that was taken by the book. Assumes nothing.
use Rattle.std.proofs.Common.{◌≡◌, ℕ, true, List, is_err, Some, None, Ok, Err, Option, Result, sym, subst}
use Rattle.draft.specs.Book.{Book}
use Rattle.settling.specs.Costings.{total}
use Rattle.settling.specs.Promise.{AnsweredBy, Settling, ill_put}
use Rattle.settling.specs.Run.{Stepped}
use Rattle.settling.specs.declared.fault.SearchFault.{SearchFault}
use Rattle.settling.specs.declared.fault.SearchFault.TheVariants.{OutOfLimits, ShortStack, NoTone, Spent, NoScale}
use Rattle.settling.specs.declared.settle.Settled.{Settled}
use Rattle.settling.specs.declared.step.Answer.{Answer}
use Rattle.command.specs.declared.command.Command.{Command}
use Rattle.command.specs.declared.fault.TextFault.{TextFault}
use Rattle.session.specs.Answers.{barlow, replied}
use Rattle.session.specs.Obeying.{Obeyed}
use Rattle.session.specs.declared.fault.SessionFault.{SessionFault}
use Rattle.session.specs.declared.session.Session.{Session}

-- a step that the draft followed, and that was replied to as it was answered
pub obeyed : (read : Result Command TextFault) (command : Command) → read ≡ Ok command → (before after : Session) (a : Answer ℕ) (r : Result (Option (Settled ℕ)) SessionFault)
    → Stepped barlow total 33 command.step before.draft after.draft a before.sheet after.sheet → r ≡ replied a
    → (is_err r ≡ true → (after.draft ≡ before.draft) × (after.sheet ≡ before.sheet)) → Obeyed read before after r
obeyed read command is before after a r by same kept = subst (λ x. Obeyed x before after r) (sym is) (record { by_book = λ b h. (a, ((by b h).0, same, (by b h).1)); refused = kept })

answered_unsettled : (b : Book) (allowance : ℕ) (o : Option SearchFault) (f : SearchFault) (s t : List ℕ) → AnsweredBy barlow total b allowance o (Err f) s t → t ≡ s
answered_unsettled b allowance (Some g) f s t h = h.1
answered_unsettled b allowance None OutOfLimits s t h = absurd h
answered_unsettled b allowance None ShortStack s t h = absurd h
answered_unsettled b allowance None NoTone s t h = absurd h
answered_unsettled b allowance None Spent s t h = h.1
answered_unsettled b allowance None (NoScale n) s t h = h.3

-- a settling that gives no scale leaves the sheet
pub unsettled : (b : Book) (allowance : ℕ) (f : SearchFault) (s t : List ℕ) → Settling barlow total b allowance 33 (Err f) s t → t ≡ s
unsettled b allowance f s t h = answered_unsettled b allowance (ill_put b 33 allowance) f s t h
