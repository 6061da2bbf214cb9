use Rattle.std.proofs.Common.{◌*◌, ◌≤◌, length}
use Rattle.draft.specs.Book.{Book}
use Rattle.draft.specs.Held.{Holds}
use Rattle.settling.specs.Settling.{below}
use Rattle.std.specs.List.{flat_map}
use Rattle.session.specs.Answers.{tone_line}
use Rattle.session.specs.Pages.{Written}
use Rattle.session.proofs.page.Page.scale.Given as goal

abbrev pub invariant-loop-tone : goal.invariant-loop-tone
invariant-loop-tone l = (b : Book) → Holds l.draft b → Written l.initial.self (flat_map (tone_line b l.sheet) (below (length l.yielded))) l.self × (length (flat_map (tone_line b l.sheet) (below (length l.yielded))) ≤ 37 * length l.yielded)
