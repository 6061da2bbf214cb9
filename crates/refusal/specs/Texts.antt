-- The words and lines by which a refusal is told.
use Rattle.std.specs.Prelude.{ℕ, List, ◌++◌, codes, decimal}
use Rattle.refusal.specs.declared.Layer.{Layer}
use Rattle.refusal.specs.declared.Layer.TheVariants.{Text, Ratio, Draft, Search}
use Rattle.refusal.specs.declared.Refusal.{Refusal}

-- the word of a layer
abbrev pub layer_word : Layer → List ℕ
layer_word Text = codes "text"
layer_word Ratio = codes "ratio"
layer_word Draft = codes "draft"
layer_word Search = codes "search"

-- `no`, layer, number and column, with one space between
abbrev pub refusal_line : Refusal → List ℕ
refusal_line r = codes "no " ++ (layer_word r.layer ++ (codes " " ++ (decimal r.number ++ (codes " " ++ decimal r.column))))
