use Rattle.draft.specs.Held.{book_of}
use Rattle.draft.proofs.Holding.{held_book}
use Rattle.draft.proofs.draft.Draft.tones.Goals as goal

pub returns-clause-some_book : goal.returns-clause-some_book
returns-clause-some_book c = let d = c.args.self.now in (book_of d, held_book d)
