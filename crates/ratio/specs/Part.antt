-- What contracts see of a part of a ratio word. Only private functions cite this.
use Rattle.std.specs.Prelude.{ℕ}

-- the number that the digits read so far write, and how many they are
pub record PartRead : Type 0 where
  pub number : ℕ
  pub digits : ℕ
