-- The taken places of a table, of which there are `count`. Assumes nothing.
use Rattle.std.proofs.Common.{◌≡◌, ℕ, suc, ◌+◌, ◌-◌, ◌<◌, ◌≤◌, List, ◌++◌, length, take, drop, Some, None, slice_get, remove, ap, ap₂, sym, ◌∙◌, arith, length-drop, length-take}
use Rattle.std.specs.List.{copy_within}
use Rattle.std.proofs.lemmas.List.{drop-take, take-take}
use Rattle.std.proofs.lemmas.List.Edits.{take-paste}
use Rattle.std.proofs.lemmas.Grind.{common_steps}
use Rattle.std.proofs.lemmas.Option.{slice_get_within, slice_get_cases}

-- nothing is removed past the end
pub remove_past : {A : Type 0} (xs : List A) (i : ℕ) → length xs ≤ i → remove xs i ≡ xs
remove_past xs i h = grind (arith, common_steps)

module _ {A : Type 0} (xs : List A) (count place : ℕ) where
  -- a place that has an item is taken
  pub taken : (x : A) → slice_get (take count xs) place ≡ Some x → place < count
  taken x is = omega (arith, slice_get_within (take count xs) place x is, length-take count xs)

  -- a place that has no item is past the taken ones
  pub not_taken : slice_get (take count xs) place ≡ None → length (take count xs) ≤ place
  not_taken is = grind (arith, slice_get_cases (take count xs) place)

  -- the items after a place moved down by one
  pub moved_down : place < count → count ≤ length xs → take (count - 1) (copy_within xs (place + 1) count place) ≡ remove (take count xs) place
  moved_down h i =
      let after : ℕ = count - (place + 1) in
      let whole : count ≡ place + 1 + after = omega arith in
      let next : suc place ≡ place + 1 = omega arith in
      let long : length (drop (place + 1) xs) ≡ length xs - (place + 1) = length-drop (place + 1) xs in
      ap (λ n. take n (copy_within xs (place + 1) count place)) (omega arith)
      ∙ (take-paste xs place (drop (place + 1) xs) after (omega arith) (omega arith)
      ∙ ap₂ ◌++◌ (sym (take-take place count xs (omega arith))) (sym (ap (λ k. drop k (take count xs)) next ∙ (ap (λ n. drop (place + 1) (take n xs)) whole ∙ drop-take (place + 1) after xs))))
