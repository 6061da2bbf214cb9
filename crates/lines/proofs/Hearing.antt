-- How the start of a line follows the bytes that are read.
use Rattle.std.proofs.Common.{◌≡◌, ℕ, ◌<◌, ◌≤◌, min, List, [], ◌∷◌, ◌++◌, length, take, Ok, Err, Result, sym, ap, ◌∙◌, arith, length-take}
use Rattle.std.proofs.lemmas.List.{take_all, take-append-le, length_push}
use Rattle.std.specs.Result.{MatchResult}
use Rattle.places.specs.declared.Places.{Places}
use Rattle.places.specs.Listed.{listed}

-- whoever sees what a line holds sees how long the line is, up to 81
pub heard_count : (kept past : List ℕ) → kept ≡ take 81 past → length kept ≡ min 81 (length past)
heard_count kept past heard = ap length heard ∙ length-take 81 past

-- a line that is not too long is held as it is
pub heard_whole : (kept past : List ℕ) → kept ≡ take 81 past → length kept ≤ 80 → kept ≡ past
heard_whole kept past heard short = heard ∙ take_all 81 past (omega (arith, heard_count kept past heard))

-- one byte more is held after the others if there is room, and else nothing changes
pub heard_more : {A E : Type 0} (pushed : Result A E) (bytes after : Places ℕ 81) (past : List ℕ) (byte : ℕ)
    → MatchResult pushed (λ _. (length (listed bytes) < 81) × (listed after ≡ listed bytes ++ (byte ∷ []))) (λ _. (length (listed bytes) ≡ 81) × (after ≡ bytes))
    → listed bytes ≡ take 81 past → listed after ≡ take 81 (past ++ (byte ∷ []))
heard_more (Ok _) bytes after past byte room heard =
    let count = heard_count (listed bytes) past heard in
    let all : length (past ++ (byte ∷ [])) ≤ 81 = omega (arith, length_push past byte) in
    room.1 ∙ ap (λ kept. kept ++ (byte ∷ [])) (heard_whole (listed bytes) past heard (omega arith)) ∙ sym (take_all 81 (past ++ (byte ∷ [])) all)
heard_more (Err _) bytes after past byte full heard =
    ap listed full.1 ∙ heard ∙ sym (take-append-le 81 past (byte ∷ []) (omega (arith, heard_count (listed bytes) past heard)))
