-- The last of a list taken off, and a value put on a list and taken off again.
use Rattle.std.proofs.Common.{◌≡◌, suc, ◌+◌, ◌-◌, ◌<◌, List, [], ◌∷◌, ◌++◌, length, take, Some, None, Option, sym, refl, ap, ◌∙◌, take_all, arith}
use Rattle.std.specs.List.{slice_get}
use Rattle.std.proofs.lemmas.Option.{slice_get-get_or}
use Rattle.std.proofs.lemmas.List.{take_more, length_push, same_from_push}
use Rattle.costing.specs.Stacks.{TakenOff}

-- the last value of a list, if there is one, taken off
pub last_off : {V : Type 0} (xs : List V) → TakenOff (slice_get xs (length xs - 1)) xs (take (length xs - 1) xs)
last_off [] = (refl, refl)
last_off (x ∷ xs) =
    let end : suc (length xs) - 1 ≡ length xs = omega arith in
    let within : length xs < length (x ∷ xs) = omega arith in
    let all = take_all (length xs + 1) (x ∷ xs) (omega arith) in
    rw (end, slice_get-get_or (x ∷ xs) (length xs) x within) (sym all ∙ take_more (x ∷ xs) (length xs) x within)

-- what is taken off is what was put on
pub taken_put : {V : Type 0} (r : Option V) (xs ys rest : List V) (v : V) → ys ≡ xs ++ (v ∷ []) → TakenOff r ys rest → (r ≡ Some v) × (rest ≡ xs)
taken_put None xs ys rest v put taken = absurd (omega (arith, ap length (sym put ∙ taken.0), length_push xs v))
taken_put (Some w) xs ys rest v put taken =
    let same = same_from_push xs rest v w (sym put ∙ taken) in
    (ap Some (sym same.1), sym same.0)
