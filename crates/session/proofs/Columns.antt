-- The column of a line's first word. Assumes nothing.
use Rattle.std.proofs.Common.{◌≡◌, ℕ, true, false, cond, eqb, List, [], ◌∷◌, map, Some, refl}
use Rattle.std.specs.List.{onto_first, slice_get}
use Rattle.command.specs.Words.{words, placed, column_at}

-- the name of the command, or what stands for it, is at column 1
pub first_column : (line : List ℕ) → Some 1 ≡ column_at line 0
first_column [] = refl
first_column (c ∷ line) =
    elim (eqb c 32) as (λ t. Some 1 ≡ slice_get (map (λ w. w.1) (placed 1 (cond t ([] ∷ words line) (onto_first c (words line))))) 0) [
      | true ↦ refl
      | false ↦ behind (words line)
    ]
  where
    behind : (ws : List (List ℕ)) → Some 1 ≡ slice_get (map (λ w. w.1) (placed 1 (onto_first c ws))) 0
    behind [] = refl
    behind (w ∷ ws) = refl
