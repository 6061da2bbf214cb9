-- What is read of a book.
use Rattle.std.specs.Prelude.{ℕ, cond, ◌||◌, List, ℤ, Some, None, Option, ◌==◌}
use Rattle.std.specs.Option.{option_map}
use Rattle.std.specs.List.{slice_get}
use Rattle.ratio.specs.declared.ratio.Ratio.{Ratio}
use Rattle.draft.specs.Book.{Book, absent}

-- the pitch of a tone, if it is there
abbrev pub pitch_in : Book → ℕ → Option ℤ
pitch_in b t = option_map (λ n. n.pitch) (slice_get b.tones t)

-- the candidates of a tone, if it is there
abbrev pub candidates_in : Book → ℕ → Option (List Ratio)
candidates_in b t = option_map (λ n. n.candidates) (slice_get b.tones t)

-- the bound of two tones that are there
abbrev pub bound_in : Book → ℕ → ℕ → Option ℕ
bound_in b t u = cond (t == u || (absent b t || absent b u)) None (Some (b.bound t u))
