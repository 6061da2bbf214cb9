-- What stands in a buffer that answers are written into.
use Rattle.std.specs.Prelude.{◌≡◌, ℕ, ◌+◌, ◌/◌, ◌≤◌, cond, List, ◌++◌, length, take, drop, ℤ, negsuc, codes, int_le, unsigned_abs}
use Rattle.lines.specs.Decimals.{with_decimals}
use Rattle.session.specs.declared.page.Page.{Page}

-- the bytes of a buffer after text was written over it from a place on
abbrev pub overwritten : List ℕ → ℕ → List ℕ → List ℕ
overwritten out place text = take place out ++ (text ++ drop (place + length text) out)

-- thousandths of a cent, in cents with a sign and two decimals: the third decimal is dropped, and the sign is a minus only
-- where what is left is below zero, that is at -10 (negsuc 9) and below
abbrev pub offset_text : ℤ → List ℕ
offset_text t = cond (int_le t (negsuc 9)) (codes "-") (codes "+") ++ with_decimals 2 (unsigned_abs t / 10)

-- what a call did that wrote the text from a place on and gave `end`
pub record Put (before : List ℕ) (place : ℕ) (text : List ℕ) (after : List ℕ) (end : ℕ) : Type 0 where
  pub ended : end ≡ place + length text
  pub written : after ≡ overwritten before place text

-- the text was put behind what the page says, if there is room for it, and the page is still over the same buffer
pub record Written (before : Page) (text : List ℕ) (after : Page) : Type 0 where
  pub same_reference : after.out.ghost_name ≡ before.out.ghost_name
  pub put : before.end + length text ≤ length before.out.now → Put before.out.now before.end text after.out.now after.end

-- nothing is written yet on the page, which is over the buffer
pub record Fresh (buffer : List ℕ) (page : Page) : Type 0 where
  pub nothing : page.end ≡ 0
  pub over : page.out.now ≡ buffer
