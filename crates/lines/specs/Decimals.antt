-- Numbers that are written with decimals.
use Rattle.std.specs.Prelude.{ℕ, zero, suc, ◌+◌, ◌/◌, ◌%◌, ◌^◌, List, [], ◌∷◌, ◌++◌, ℤ, pos, negsuc, codes, decimal}

-- the last k digits of n, a digit d as the byte 48 + d
abbrev pub last_digits : ℕ → ℕ → List ℕ
last_digits zero n = []
last_digits (suc k) n = (48 + n / 10 ^ k % 10) ∷ last_digits k n

-- n counts parts of which 10 ^ k are a whole: the wholes, a period, and k digits
abbrev pub with_decimals : ℕ → ℕ → List ℕ
with_decimals k n = decimal (n / 10 ^ k) ++ (codes "." ++ last_digits k n)

-- the same of a number that may be below zero, which a minus tells
abbrev pub signed_decimals : ℕ → ℤ → List ℕ
signed_decimals k (pos n) = with_decimals k n
signed_decimals k (negsuc n) = codes "-" ++ with_decimals k (suc n)
