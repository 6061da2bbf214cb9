-- The bound of a pair as it is read. Assumes nothing.
use Rattle.std.proofs.Common.{◌≡◌, ℕ, ◌<◌, length, Some, None, arith}
use Rattle.std.proofs.lemmas.Bool.Decides.{nat_tests}
use Rattle.draft.specs.Book.{Book}
use Rattle.draft.specs.Changes.{pair_fault}
use Rattle.draft.specs.Reading.{bound_in}
use Rattle.draft.specs.declared.fault.DraftFault.{DraftFault}

pub bound_there : (b : Book) (t u : ℕ) → (t ≡ u → ⊥) → t < length b.tones → u < length b.tones → bound_in b t u ≡ Some (b.bound t u)
bound_there b t u apart ht hu = grind (arith, nat_tests)

pub bound_at_pair : (b : Book) (t u : ℕ) → pair_fault b t u ≡ None → bound_in b t u ≡ Some (b.bound t u)
bound_at_pair b t u none = grind (arith, nat_tests)

pub bound_at_none : (b : Book) (t u : ℕ) (f : DraftFault) → pair_fault b t u ≡ Some f → bound_in b t u ≡ None
bound_at_none b t u f is = grind (arith, nat_tests)
