-- How a ratio is written.
use Rattle.std.specs.Prelude.{ℕ, List, ◌++◌, codes, decimal}
use Rattle.ratio.specs.declared.ratio.Ratio.{Ratio}
use Rattle.ratio.specs.Products.{numerator, denominator}

-- numerator, slash and denominator in lowest terms, as 45/32
abbrev pub ratio_text : Ratio → List ℕ
ratio_text r = decimal (numerator r.exponents) ++ (codes "/" ++ decimal (denominator r.exponents))
