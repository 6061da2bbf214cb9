-- How far apart two whole numbers are is a distance.
use Rattle.std.specs.Prelude.{◌≡◌, ℕ, ◌+◌, ◌≤◌, ℤ, unsigned_abs}
use Rattle.std.proofs.Common.{arith}
use Rattle.std.proofs.lemmas.Int.{ints}
use Rattle.measure.specs.Apart.{apart}

pub apart_zero : (x : ℤ) → apart x x ≡ 0
apart_zero x = omega (arith, ints)

pub apart_both : (x y : ℤ) → apart x y ≡ apart y x
apart_both x y = omega (arith, ints)

pub apart_triangle : (x y z : ℤ) → apart x z ≤ apart x y + apart y z
apart_triangle x y z = omega (arith, ints)

pub apart_bounded : (x y : ℤ) (m n : ℕ) → unsigned_abs x ≤ m → unsigned_abs y ≤ n → apart x y ≤ m + n
apart_bounded x y m n h i = omega (arith, ints)

pub apart_only_zero : (x y : ℤ) → apart x y ≡ 0 → x ≡ y
apart_only_zero x y h = omega (arith, ints)
