use Rattle.std.proofs.Common.{◌≡◌, ℤ, pos, ◌-ℤ◌, neg_ℤ, Some, None, subst, arith, w32, SFits, to_z, of_z, rules}
use Rattle.std.proofs.lemmas.Int.{ints}
use Rattle.command.specs.Forms.{CentsRead}
use Rattle.command.proofs.Cents.{minus_read, plain_read, printed_cents}
use Rattle.command.proofs.form.read_cents.Goals as goal

pub returns-in_err-read_unsigned-in-45 : goal.returns-in_err-read_unsigned-in-45
returns-in_err-read_unsigned-in-45 c =
    let word = c.args.word.now in
    let form : CentsRead word None = minus_read word None (search rules) (search rules) c.in_err-read_unsigned-in-45.ensures in
    rw c.from_residual.ensures (record { form = form; again = printed_cents word None form })

pub returns-in_ok-read_unsigned-in-45 : goal.returns-in_ok-read_unsigned-in-45
returns-in_ok-read_unsigned-in-45 c =
    let word = c.args.word.now in
    let p = c.in_ok-read_unsigned-in-45.field-0 in
    let q : ℤ = to_z w32 (of_z w32 (pos 0 -ℤ to_z w32 (of_z w32 p))) in
    let read = c.in_ok-read_unsigned-in-45.ensures in
    let fits : SFits w32 p = search rules in
    let is : neg_ℤ p ≡ q = omega (arith, ints, read.1.1.1) in
    let form : CentsRead word (Some q) = subst (λ z. CentsRead word (Some z)) is (minus_read word (Some p) (search rules) (search rules) read) in
    record { form = form; again = printed_cents word (Some q) form }

pub returns-in_default : goal.returns-in_default
returns-in_default c =
    let word = c.args.word.now in
    let form : CentsRead word c.read_unsigned-in_default.result = plain_read word c.read_unsigned-in_default.result (λ v e. grind arith) c.read_unsigned-in_default.ensures in
    record { form = form; again = printed_cents word c.read_unsigned-in_default.result form }
