-- How texts that are written one behind the other stand on a page.
use Rattle.std.proofs.Common.{◌≡◌, ℕ, ◌+◌, ◌/◌, ◌%◌, ◌^◌, ◌<◌, ◌≤◌, Bool, true, false, cond, List, [], ◌∷◌, ◌++◌, length, take, drop, ℤ, negsuc, nat_abs, codes, decimal, sym, refl, ap, ◌∙◌, subst, append_assoc, arith, length-append, length-drop, w64, SFits, to_z, of_z}
use lib.Signed.{le_z}
use Rattle.std.proofs.lemmas.Fmt.{length-decimal-le}
use Rattle.std.proofs.lemmas.List.{take_at, drop_at, drop-drop, length-take-le, take-append-drop}
use Rattle.std.proofs.lemmas.Int.{to_z-of_z}
use Rattle.lines.specs.Decimals.{last_digits, with_decimals}
use Rattle.ratio.specs.Printing.{ratio_text}
use Rattle.ratio.specs.Products.{numerator, denominator}
use Rattle.ratio.specs.declared.ratio.Ratio.{Ratio}
use Rattle.refusal.specs.Texts.{layer_word, refusal_line}
use Rattle.refusal.specs.declared.Layer.{Layer}
use Rattle.refusal.specs.declared.Layer.TheVariants.{Text, Ratio as RatioLayer, Draft, Search}
use Rattle.refusal.specs.declared.Refusal.{Refusal}
use Rattle.session.specs.Pages.{overwritten, offset_text, Put, Written, Fresh}
use Rattle.session.specs.declared.page.Page.{Page}

-- ---- a text in a buffer

module _ (out : List ℕ) (place : ℕ) (text : List ℕ) where
  -- what stands before the text, with it, ends where the text does
  front_length : place ≤ length out → length (take place out ++ text) ≡ place + length text
  front_length within = omega (arith, length-append (take place out) text, length-take-le place out within)

  -- the buffer as what ends with the text, and what follows it
  parted : overwritten out place text ≡ (take place out ++ text) ++ drop (place + length text) out
  parted = sym (append_assoc (take place out) text (drop (place + length text) out))

  -- up to the end of the text there stands what stood before its place, and the text
  pub taken : place ≤ length out → take (place + length text) (overwritten out place text) ≡ take place out ++ text
  taken within =
      ap (take (place + length text)) parted ∙ take_at (take place out ++ text) (drop (place + length text) out) (place + length text) (front_length within)

  -- behind the text there stands what stood there before
  pub left : place ≤ length out → drop (place + length text) (overwritten out place text) ≡ drop (place + length text) out
  left within =
      ap (drop (place + length text)) parted ∙ drop_at (take place out ++ text) (drop (place + length text) out) (place + length text) (front_length within)

  -- the buffer is as long as it was
  pub overwritten_length : place + length text ≤ length out → length (overwritten out place text) ≡ length out
  overwritten_length room =
      let front = front_length (omega arith) in
      let rest = length-drop (place + length text) out in
      let whole = length-append (take place out ++ text) (drop (place + length text) out) in
      ap length parted ∙ omega arith

-- a text behind another makes one text of both
pub overwritten_more : (out : List ℕ) (place : ℕ) (a b : List ℕ) → place ≤ length out → overwritten (overwritten out place a) (place + length a) b ≡ overwritten out place (a ++ b)
overwritten_more out place a b within =
    let k : ℕ = place + length a in
    let page : List ℕ = overwritten out place a in
    let front = taken out place a within in
    let rest = left out place a within in
    let more = drop-drop (length b) k page in
    let less = drop-drop (length b) k out in
    let ends : place + length (a ++ b) ≡ k + length b = omega (arith, length-append a b) in
    let both = append_assoc (take place out) a (b ++ drop (k + length b) out) in
    let text = append_assoc a b (drop (k + length b) out) in
    cc

-- ---- texts on a page

-- two texts that were written one behind the other are one text
pub then : {p q r : Page} {a b : List ℕ} → Written p a q → Written q b r → Written p (a ++ b) r
then {p} {q} {r} {a} {b} first second = record {
  same_reference = second.same_reference ∙ first.same_reference;
  put = λ fits.
      let room : p.end + (length a + length b) ≤ length p.out.now = omega (arith, length-append a b, fits) in
      let one = first.put (omega arith) in
      let long = overwritten_length p.out.now p.end a (omega arith) in
      let two = second.put (omega (arith, one.ended, ap length one.written, long)) in
      record {
        ended = two.ended ∙ omega (arith, length-append a b, one.ended);
        written = two.written ∙ (λ i. overwritten (one.written i) (one.ended i) b) ∙ overwritten_more p.out.now p.end a b p.within;
      };
}

-- the same of an equal text
pub as_text : {p q : Page} {a b : List ℕ} → a ≡ b → Written p a q → Written p b q
as_text {p} {q} same done = subst (λ text. Written p text q) same done

-- what is written on a fresh page stands at the start of its buffer, if it is short enough
pub put_over : {p q : Page} {buffer filled text : List ℕ} {n : ℕ} → Fresh buffer p → Written p text q → filled ≡ q.out.now → n ≡ q.end → length text ≤ length buffer → Put buffer 0 text filled n
put_over {p} {q} {buffer} {filled} {text} {n} fresh done left_there ends short =
    let room : p.end + length text ≤ length p.out.now = omega (arith, fresh.nothing, ap length fresh.over) in
    let one = done.put room in
    record {
      ended = ends ∙ one.ended ∙ ap (λ k. k + length text) fresh.nothing;
      written = left_there ∙ one.written ∙ (λ i. overwritten (fresh.over i) (fresh.nothing i) text);
    }

-- nothing is written
pub nothing_written : (p : Page) → Written p [] p
nothing_written p = record {
  same_reference = refl;
  put = λ fits. record { ended = omega arith; written = sym (take-append-drop p.end p.out.now) ∙ ap (λ k. take p.end p.out.now ++ drop k p.out.now) (omega arith) };
}

-- ---- the pieces of a text

-- the pieces of a ratio's text
pub ratio_pieces : (r : Ratio) (n d : ℕ) → n ≡ numerator r.exponents → d ≡ denominator r.exponents → (decimal n ++ (47 ∷ [])) ++ decimal d ≡ ratio_text r
ratio_pieces r n d above below =
    append_assoc (decimal n) (47 ∷ []) (decimal d) ∙ (λ i. decimal (above i) ++ (47 ∷ decimal (below i)))

-- the digits of the numerator, a slash, and the digits of the denominator
pub ratio_length : (r : Ratio) → length (ratio_text r) ≡ length (decimal (numerator r.exponents)) + (1 + length (decimal (denominator r.exponents)))
ratio_length r = length-append (decimal (numerator r.exponents)) (47 ∷ decimal (denominator r.exponents)) ∙ omega arith

-- the sign, the digits of the wholes, a period, and two digits
pub offset_length : (t : ℤ) → length (offset_text t) ≡ 1 + (length (decimal (nat_abs t / 10 / 100)) + 3)
offset_length t =
    let n : ℕ = nat_abs t / 10 in
    let long = length-append (decimal (n / 100)) (46 ∷ last_digits 2 n) in
    elim (le_z t (negsuc 9)) as (λ b. length (cond b (codes "-") (codes "+") ++ with_decimals 2 n) ≡ 1 + (length (decimal (n / 100)) + 3)) [
      | true ↦ omega arith
      | false ↦ omega arith
    ]

-- the sign that the code writes is that of the text
pub sign_by : (t : ℤ) (below : Bool) (sign : ℕ) → SFits w64 t → le_z (to_z w64 (of_z w64 t)) (negsuc 9) ≡ below → sign ≡ cond below 45 43 → sign ≡ cond (le_z t (negsuc 9)) 45 43
sign_by t below sign fits tested is =
    is ∙ ap (λ b. cond b 45 43) (sym tested ∙ ap (λ z. le_z z (negsuc 9)) (to_z-of_z w64 t fits))

-- the byte of the sign is the text of the sign
sign_text : (b : Bool) → cond b 45 43 ∷ [] ≡ cond b (codes "-") (codes "+")
sign_text true = refl
sign_text false = refl

-- the pieces of an offset's text
pub offset_pieces : (t : ℤ) (sign n : ℕ) → sign ≡ cond (le_z t (negsuc 9)) 45 43 → n ≡ nat_abs t → ((sign ∷ []) ++ decimal (n / 10 / 100)) ++ (46 ∷ (48 + n / 10 / 10 % 10) ∷ (48 + n / 10 % 10) ∷ []) ≡ offset_text t
offset_pieces t sign n signed size =
    let front : sign ∷ [] ≡ cond (le_z t (negsuc 9)) (codes "-") (codes "+") = ap (λ s. s ∷ []) signed ∙ sign_text (le_z t (negsuc 9)) in
    let last : n / 10 ≡ n / 10 / 1 = omega arith in
    let decimals : decimal (n / 10 / 100) ++ (46 ∷ (48 + n / 10 / 10 % 10) ∷ (48 + n / 10 % 10) ∷ []) ≡ with_decimals 2 (n / 10) = ap (λ m. decimal (n / 10 / 100) ++ (46 ∷ (48 + n / 10 / 10 % 10) ∷ (48 + m % 10) ∷ [])) last in
    (λ i. front i ++ decimals i) ∙ ap (λ m. cond (le_z t (negsuc 9)) (codes "-") (codes "+") ++ with_decimals 2 (m / 10)) size

-- `no `, the word, a space, the digits of the number, a space, and those of the column
pub refusal_length : (r : Refusal) → length (refusal_line r) ≡ 3 + (length (layer_word r.layer) + (1 + (length (decimal r.number) + (1 + length (decimal r.column)))))
refusal_length r =
    let number = length-append (decimal r.number) (32 ∷ decimal r.column) in
    let word = length-append (layer_word r.layer) (32 ∷ (decimal r.number ++ (32 ∷ decimal r.column))) in
    omega arith

-- texts that were joined one after the other, as the line of a refusal joins them
regrouped : (a b c d e f g : List ℕ) → (((((a ++ b) ++ c) ++ d) ++ e) ++ f) ++ g ≡ (a ++ (b ++ (c ++ (d ++ (e ++ f))))) ++ g
regrouped a b c d e f g = simp append_assoc

-- the pieces of a refusal's line
pub refusal_pieces : (r : Refusal) (word : List ℕ) (n : ℕ) → word ≡ layer_word r.layer → n ≡ r.number → (((((codes "no " ++ word) ++ codes " ") ++ decimal n) ++ codes " ") ++ decimal r.column) ++ (10 ∷ []) ≡ refusal_line r ++ (10 ∷ [])
refusal_pieces r word n spelt number =
    regrouped (codes "no ") word (codes " ") (decimal n) (codes " ") (decimal r.column) (10 ∷ []) ∙ (λ i. (codes "no " ++ (spelt i ++ (codes " " ++ (decimal (number i) ++ (codes " " ++ decimal r.column))))) ++ (10 ∷ []))

-- ---- how long a text can be

-- a ratio takes at most 21 bytes
pub ratio_short : (r : Ratio) → length (ratio_text r) ≤ 21
ratio_short r =
    let above = length-decimal-le 10 (numerator r.exponents) (omega arith) (omega (arith, r.numerator_fits)) (omega (arith, r.numerator_fits)) in
    let below = length-decimal-le 10 (denominator r.exponents) (omega arith) (omega (arith, r.denominator_fits)) (omega (arith, r.denominator_fits)) in
    omega (arith, ratio_length r)

-- an offset of fewer than 2 ^ 32 thousandths takes at most 14 bytes
pub offset_short : (t : ℤ) → nat_abs t < 2 ^ 32 → length (offset_text t) ≤ 14
offset_short t small =
    let wholes = length-decimal-le 10 (nat_abs t / 10 / 100) (omega arith) (omega arith) (omega arith) in omega (arith, offset_length t)

-- the word of a layer takes at most 6 bytes
word_short : (layer : Layer) → length (layer_word layer) ≤ 6
word_short Text = omega arith
word_short RatioLayer = omega arith
word_short Draft = omega arith
word_short Search = omega arith

-- a refusal, without the byte that ends its line, takes at most 60 bytes
pub refusal_short : (r : Refusal) → r.number < 2 ^ 8 → r.column < 2 ^ 64 → length (refusal_line r) ≤ 60
refusal_short r number_fits column_fits =
    let word = word_short r.layer in
    let number = length-decimal-le 20 r.number (omega arith) (omega arith) (omega arith) in
    let column = length-decimal-le 20 r.column (omega arith) (omega arith) column_fits in
    omega (arith, refusal_length r)
