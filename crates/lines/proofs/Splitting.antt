-- How the lines of an input follow from those of its parts.
use Rattle.std.proofs.Common.{◌≡◌, ℕ, Bool, true, false, cond, eqb, List, [], ◌∷◌, ◌++◌, sym, refl, append_assoc, append-nil, arith, ◌≢◌}
use Rattle.std.proofs.ByRecursion.{All-push}
use Rattle.std.proofs.lemmas.Bool.{eqb-false}
use Rattle.std.proofs.lemmas.Bool.Decides.{nat_tests}
use Rattle.std.specs.List.{AllByRecursion}
use Rattle.lines.specs.Splitting.{ended_on, open_on, ended, open_line, rejoin, Unbroken, Split}

-- the lines that two parts end: the second goes on with the line that the first leaves open
pub ended-++ : (line xs ys : List ℕ) → ended_on line (xs ++ ys) ≡ ended_on line xs ++ ended_on (open_on line xs) ys
ended-++ line [] ys = refl
ended-++ line (x ∷ xs) ys = grind (arith, ended-++ [] xs ys, ended-++ (line ++ (x ∷ [])) xs ys)

-- the line that two parts leave open
pub open-++ : (line xs ys : List ℕ) → open_on line (xs ++ ys) ≡ open_on (open_on line xs) ys
open-++ line [] ys = refl
open-++ line (x ∷ xs) ys = grind (arith, open-++ [] xs ys, open-++ (line ++ (x ∷ [])) xs ys)

-- the lines with one byte more
pub ended_push : (past : List ℕ) (byte : ℕ) → ended (past ++ (byte ∷ [])) ≡ ended past ++ cond (eqb byte 10) (open_line past ∷ []) []
ended_push past byte = ended-++ [] past (byte ∷ [])

-- the open line with one byte more
pub open_push : (past : List ℕ) (byte : ℕ) → open_line (past ++ (byte ∷ [])) ≡ cond (eqb byte 10) [] (open_line past ++ (byte ∷ []))
open_push past byte = open-++ [] past (byte ∷ [])

-- a byte that leaves no open line is 10, and one that leaves a line is not
pub ends_all : (byte : ℕ) → open_line (byte ∷ []) ≡ [] → byte ≡ 10
ends_all byte e = grind (arith, nat_tests)

pub ends_none : (byte : ℕ) → open_line (byte ∷ []) ≡ byte ∷ [] → byte ≢ 10
ends_none byte e ten = grind (arith, nat_tests)

-- the ended lines, each with its byte 10, and the open line are the input
pub rejoined : (line bs : List ℕ) → rejoin (ended_on line bs) (open_on line bs) ≡ line ++ bs
rejoined line [] = sym (append-nil line)
rejoined line (b ∷ bs) = grind (arith, nat_tests, append_assoc, rejoined [] bs, rejoined (line ++ (b ∷ [])) bs)

-- no line that is cut off holds byte 10
pub cut : (line bs : List ℕ) → Unbroken line → AllByRecursion Unbroken (ended_on line bs) × Unbroken (open_on line bs)
cut line [] whole = (tt, whole)
cut line (b ∷ bs) whole = by (eqb b 10) refl (cut [] bs tt) (cut (line ++ (b ∷ [])) bs) where
  by : (v : Bool) → eqb b 10 ≡ v → AllByRecursion Unbroken (ended_on [] bs) × Unbroken (open_on [] bs) → (Unbroken (line ++ (b ∷ [])) → AllByRecursion Unbroken (ended_on (line ++ (b ∷ [])) bs) × Unbroken (open_on (line ++ (b ∷ [])) bs)) → AllByRecursion Unbroken (cond v (line ∷ ended_on [] bs) (ended_on (line ++ (b ∷ [])) bs)) × Unbroken (cond v (open_on [] bs) (open_on (line ++ (b ∷ [])) bs))
  by true e anew onward = ((whole, anew.0), anew.1)
  by false e anew onward = onward (All-push _ line b whole (eqb-false b 10 e))

-- every input is split into its lines
pub split : (input : List ℕ) → Split input
split input = record { rejoins = rejoined [] input; unbroken = (cut [] input tt).0; last_unbroken = (cut [] input tt).1 }
