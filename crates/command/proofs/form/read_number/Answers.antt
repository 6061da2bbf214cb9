use Rattle.std.proofs.Common.{Some, None, rules}
use Rattle.std.proofs.lemmas.List.{at_drop_more, at_drop_all}
use Rattle.command.specs.Forms.{NumberRead}
use Rattle.command.proofs.Numbers.{read_on, none_read, digits_read, printed_number}
use Rattle.command.proofs.form.read_number.Goals as goal

pub returns-then-is_empty : goal.returns-then-is_empty
returns-then-is_empty c =
    let form : NumberRead c.args.word.now None = search rules in
    record { form = form; again = printed_number c.args.word.now None form }

pub returns-then-not-is_ascii_digit : goal.returns-then-not-is_ascii_digit
returns-then-not-is_ascii_digit c =
    let e = at_drop_more (read_on c.loop-byte.number) c.args.word.now c.loop-byte.byte-index 0 (search rules) in
    let form : NumberRead c.args.word.now None = none_read c.args.word.now (search (rules, e)) in
    record { form = form; again = printed_number c.args.word.now None form }

pub returns : goal.returns
returns c =
    let e = at_drop_all (read_on c.loop-byte.number) c.args.word.now c.loop-byte.byte-index (search rules) in
    let read = digits_read 0 c.args.word.now c.loop-byte.number (search (rules, e)) in
    let form : NumberRead c.args.word.now (Some c.loop-byte.number) = search (rules, read) in
    record { form = form; again = printed_number c.args.word.now (Some c.loop-byte.number) form }
