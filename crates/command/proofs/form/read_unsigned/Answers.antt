use Rattle.std.proofs.Common.{◌≡◌, ℕ, ◌+◌, ◌-◌, ◌*◌, ◌^◌, ◌<◌, ◌≤◌, length, take, ℤ, pos, Some, Ok, Err, Result, ap, arith, w32, SFits, rules}
use Rattle.std.specs.Result.{result_ok, OkIff}
use Rattle.command.proofs.Cents.{parted_word, numerals, from_numerals, number_below}
use Rattle.command.proofs.form.read_unsigned.Goals as goal

pub returns-in_err-wholes : goal.returns-in_err-wholes
returns-in_err-wholes c =
    let w = c.args.word.now in
    let front = c.in_ok-front.front.now in
    let p = parted_word w front c.in_ok-front.thousandths.now (search rules) (search rules) (search rules) (search rules) in
    rw c.from_residual-in_err-wholes.ensures (λ a b h. c.in_err-wholes.ensures.form (numerals w (take (length front - 1) front) c.in_ok-front.thousandths.now a b p h).0)

pub returns-in_err-thousandths : goal.returns-in_err-thousandths
returns-in_err-thousandths c =
    let w = c.args.word.now in
    let front = c.in_ok-front.front.now in
    let p = parted_word w front c.in_ok-front.thousandths.now (search rules) (search rules) (search rules) (search rules) in
    rw c.from_residual-in_err-thousandths.ensures (λ a b h. c.in_err-thousandths.ensures.form (numerals w (take (length front - 1) front) c.in_ok-front.thousandths.now a b p h).1)

pub overflow_mul-wholes : goal.overflow_mul-wholes
overflow_mul-wholes c =
    let below = number_below (take (length c.in_ok-front.front.now - 1) c.in_ok-front.front.now) c.in_ok-wholes.wholes 10 c.in_ok-wholes.ensures.form c.in_ok-wholes.ensures.form.0.few in
    omega arith

pub overflow_add-wholes : goal.overflow_add-wholes
overflow_add-wholes c =
    let wholes = number_below (take (length c.in_ok-front.front.now - 1) c.in_ok-front.front.now) c.in_ok-wholes.wholes 10 c.in_ok-wholes.ensures.form c.in_ok-wholes.ensures.form.0.few in
    let thousandths = number_below c.in_ok-front.thousandths.now c.in_ok-thousandths.thousandths 10 c.in_ok-thousandths.ensures.form c.in_ok-thousandths.ensures.form.0.few in
    omega arith

-- a number that is small enough is converted
converted : {E : Type 0} (n : ℕ) → n < 2 ^ 31 → (r : Result ℤ E) → OkIff r (SFits w32 (pos n)) (pos n) → result_ok r ≡ Some (pos n)
converted n small (Ok x) h = ap Some h.1
converted n small (Err e) h = absurd (h (search rules))

pub returns : goal.returns
returns c =
    let w = c.args.word.now in
    let front = c.in_ok-front.front.now in
    let a = take (length front - 1) front in
    let b = c.in_ok-front.thousandths.now in
    let p = parted_word w front b (search rules) (search rules) (search rules) (search rules) in
    let few : length a ≤ 5 = search rules in
    let wholes = c.in_ok-wholes.ensures.form in
    let thousandths = c.in_ok-thousandths.ensures.form in
    let word = from_numerals w a b p few wholes.0 thousandths.0 in
    let few_wholes = number_below a c.in_ok-wholes.wholes 5 wholes few in
    let few_thousandths = number_below b c.in_ok-thousandths.thousandths 3 thousandths (omega (arith, p.three)) in
    let n : ℕ = c.in_ok-wholes.wholes * 1000 + c.in_ok-thousandths.thousandths in
    let is = converted n (omega arith) c.try_from.result c.try_from.ensures in
    rw (c.ok.ensures.value, is) (a, (b, (word, ap pos (cc (wholes.1, thousandths.1)))))
