-- The unison, and a ratio with its octaves taken out.
use Rattle.std.specs.Prelude.{◌≡◌, ◌≤◌, List, [], ◌∷◌, ℤ, pos, slice_set, refl}
use Rattle.std.proofs.Common.{◌∙◌, mul-le-mul_right, le_trans, lit≤, length-set}
use Rattle.std.proofs.Math.Nat.{one-le-pow}
use borrow.Author.Differences.{up, down}
use Rattle.ratio.specs.Products.{numerator, denominator}
use Rattle.ratio.specs.declared.ratio.Ratio.{Ratio}

-- 1/1
abbrev pub unison : Ratio
unison = record {
  exponents = pos 0 ∷ (pos 0 ∷ (pos 0 ∷ (pos 0 ∷ (pos 0 ∷ (pos 0 ∷ [])))));
  six = refl;
  numerator_fits = lit≤ tt;
  denominator_fits = lit≤ tt;
}

-- to take the octaves out makes no part larger
pub numerator_octaveless : (es : List ℤ) → numerator (slice_set es 0 (pos 0)) ≤ numerator es
numerator_octaveless [] = lit≤ tt
numerator_octaveless (e ∷ es) = mul-le-mul_right _ (one-le-pow (up e) 2 (lit≤ tt))

pub denominator_octaveless : (es : List ℤ) → denominator (slice_set es 0 (pos 0)) ≤ denominator es
denominator_octaveless [] = lit≤ tt
denominator_octaveless (e ∷ es) = mul-le-mul_right _ (one-le-pow (down e) 2 (lit≤ tt))

-- the ratio with all factors 2 taken out
unfoldable pub octaveless : Ratio → Ratio
octaveless r = record {
  exponents = slice_set r.exponents 0 (pos 0);
  six = length-set r.exponents 0 (pos 0) ∙ r.six;
  numerator_fits = le_trans (numerator_octaveless r.exponents) r.numerator_fits;
  denominator_fits = le_trans (denominator_octaveless r.exponents) r.denominator_fits;
}

pub octaveless_exponents : (r : Ratio) → (octaveless r).exponents ≡ slice_set r.exponents 0 (pos 0)
unfolding octaveless
octaveless_exponents r = refl
