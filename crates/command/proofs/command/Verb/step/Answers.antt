use Rattle.std.proofs.Common.{◌≡◌, ℤ, sym, arith, w32, SFits, to_z, of_z, rules}
use Rattle.std.proofs.lemmas.Int.{ints}
use Rattle.draft.specs.declared.call.Call.TheVariants.{Tone as ToneCall, Try as TryCall, Strike as StrikeCall, Bound as BoundCall, Level as LevelCall}
use Rattle.settling.specs.declared.step.Step.TheVariants.{Enter, Settle as SettleStep}
use Rattle.command.specs.declared.command.Verb.TheVariants.{Tone, Try, Strike, Bound, Level, Settle}
use Rattle.command.proofs.Telling.{first_amiss, second_amiss, third_amiss, step_told}
use Rattle.command.proofs.command.Verb.step.Goals as goal

pub returns-in_err-read-in-Tone-len1 : goal.returns-in_err-read-in-Tone-len1
returns-in_err-read-in-Tone-len1 c =
    let told = c.in_err-read-in-Tone-len1.ensures in
    first_amiss c.args.self Tone c.args.words.now c.from_residual.result c.in_err-read-in-Tone-len1.field-0.0 c.from_residual.ensures.1 c.in-Tone-len1.is-0 (omega arith) told.1 (λ h. told.0.0 h.1.0 h.1.1.0 h.1.1.1.0 h.1.1.1.1.0)

pub returns-in_err-tone-in-Try-len2 : goal.returns-in_err-tone-in-Try-len2
returns-in_err-tone-in-Try-len2 c =
    let told = c.in_err-tone-in-Try-len2.ensures in
    first_amiss c.args.self Try c.args.words.now c.from_residual-in_err-tone-in-Try-len2.result c.in_err-tone-in-Try-len2.field-0.0 c.from_residual-in_err-tone-in-Try-len2.ensures.1 c.in-Try-len2.is-0 (omega arith) told.1 told.0

pub returns-in_err-numerator-in-Try-len2 : goal.returns-in_err-numerator-in-Try-len2
returns-in_err-numerator-in-Try-len2 c =
    let told = c.in_err-numerator-in-Try-len2.ensures in
    second_amiss c.args.self Try c.args.words.now c.from_residual-in_err-numerator-in-Try-len2.result c.in_err-numerator-in-Try-len2.field-0.0 c.from_residual-in_err-numerator-in-Try-len2.ensures.1 c.in-Try-len2.is-0 (omega arith) told.1 (omega arith) c.in_ok-tone-in-Try-len2.ensures.0 (λ h. told.0 h.1.0 h.1.1.0 h.1.1.1.0)

pub returns-in_err-read-in-Strike-len2 : goal.returns-in_err-read-in-Strike-len2
returns-in_err-read-in-Strike-len2 c =
    let told = c.in_err-read-in-Strike-len2.ensures in
    first_amiss c.args.self Strike c.args.words.now c.from_residual-in_err-read-in-Strike-len2.result c.in_err-read-in-Strike-len2.field-0.0 c.from_residual-in_err-read-in-Strike-len2.ensures.1 c.in-Strike-len2.is-0 (omega arith) told.1 told.0

pub returns-in_err-read-in-Strike-len2-2 : goal.returns-in_err-read-in-Strike-len2-2
returns-in_err-read-in-Strike-len2-2 c =
    let told = c.in_err-read-in-Strike-len2-2.ensures in
    second_amiss c.args.self Strike c.args.words.now c.from_residual-in_err-read-in-Strike-len2-2.result c.in_err-read-in-Strike-len2-2.field-0.0 c.from_residual-in_err-read-in-Strike-len2-2.ensures.1 c.in-Strike-len2.is-0 (omega arith) told.1 (omega arith) c.in_ok-read-in-Strike-len2.ensures.0 told.0

pub returns-in_err-read-in-Bound-len3 : goal.returns-in_err-read-in-Bound-len3
returns-in_err-read-in-Bound-len3 c =
    let told = c.in_err-read-in-Bound-len3.ensures in
    first_amiss c.args.self Bound c.args.words.now c.from_residual-in_err-read-in-Bound-len3.result c.in_err-read-in-Bound-len3.field-0.0 c.from_residual-in_err-read-in-Bound-len3.ensures.1 c.in-Bound-len3.is-0 (omega arith) told.1 told.0

pub returns-in_err-read-in-Bound-len3-2 : goal.returns-in_err-read-in-Bound-len3-2
returns-in_err-read-in-Bound-len3-2 c =
    let told = c.in_err-read-in-Bound-len3-2.ensures in
    second_amiss c.args.self Bound c.args.words.now c.from_residual-in_err-read-in-Bound-len3-2.result c.in_err-read-in-Bound-len3-2.field-0.0 c.from_residual-in_err-read-in-Bound-len3-2.ensures.1 c.in-Bound-len3.is-0 (omega arith) told.1 (omega arith) c.in_ok-read-in-Bound-len3.ensures.0 told.0

pub returns-in_err-read-in-Bound-len3-3 : goal.returns-in_err-read-in-Bound-len3-3
returns-in_err-read-in-Bound-len3-3 c =
    let told = c.in_err-read-in-Bound-len3-3.ensures in
    third_amiss c.args.self Bound c.args.words.now c.from_residual-in_err-read-in-Bound-len3-3.result c.in_err-read-in-Bound-len3-3.field-0.0 c.from_residual-in_err-read-in-Bound-len3-3.ensures.1 c.in-Bound-len3.is-0 (omega arith) told.1 (omega arith) c.in_ok-read-in-Bound-len3.ensures.0 c.in_ok-read-in-Bound-len3-2.ensures.0 told.0.0

pub returns-in_err-read-in-Level-len1 : goal.returns-in_err-read-in-Level-len1
returns-in_err-read-in-Level-len1 c =
    let told = c.in_err-read-in-Level-len1.ensures in
    first_amiss c.args.self Level c.args.words.now c.from_residual-in_err-read-in-Level-len1.result c.in_err-read-in-Level-len1.field-0.0 c.from_residual-in_err-read-in-Level-len1.ensures.1 c.in-Level-len1.is-0 (omega arith) told.1 told.0.0

pub returns-in_err-read-in-Settle-len1 : goal.returns-in_err-read-in-Settle-len1
returns-in_err-read-in-Settle-len1 c =
    let told = c.in_err-read-in-Settle-len1.ensures in
    first_amiss c.args.self Settle c.args.words.now c.from_residual-in_err-read-in-Settle-len1.result c.in_err-read-in-Settle-len1.field-0.0 c.from_residual-in_err-read-in-Settle-len1.ensures.1 c.in-Settle-len1.is-0 (omega arith) told.1 told.0.0

pub returns-in_ok-read-in-Tone-len1 : goal.returns-in_ok-read-in-Tone-len1
returns-in_ok-read-in-Tone-len1 c =
    let p = c.in_ok-read-in-Tone-len1.field-0 in
    let q : ℤ = to_z w32 (of_z w32 p) in
    let fits : SFits w32 p = search rules in
    let same : p ≡ q = omega (arith, ints) in
    step_told c.args.self c.args.words.now (Enter (ToneCall q)) c.in-Tone-len1.is-0 (omega arith) (λ line l. rw (l.is_word 0 (omega arith), sym same) c.in_ok-read-in-Tone-len1.ensures.0)

pub returns-in_ok-numerator-in-Try-len2 : goal.returns-in_ok-numerator-in-Try-len2
returns-in_ok-numerator-in-Try-len2 c =
    step_told c.args.self c.args.words.now (Enter (TryCall c.in_ok-tone-in-Try-len2.tone c.in_ok-numerator-in-Try-len2.numerator c.in_ok-numerator-in-Try-len2.denominator)) c.in-Try-len2.is-0 (omega arith) (λ line l. (rw (l.is_word 0 (omega arith)) c.in_ok-tone-in-Try-len2.ensures, rw (l.is_word 1 (omega arith)) c.in_ok-numerator-in-Try-len2.ensures))

pub returns-in_ok-read-in-Strike-len2-2 : goal.returns-in_ok-read-in-Strike-len2-2
returns-in_ok-read-in-Strike-len2-2 c =
    step_told c.args.self c.args.words.now (Enter (StrikeCall c.in_ok-read-in-Strike-len2.field-0 c.in_ok-read-in-Strike-len2-2.field-0)) c.in-Strike-len2.is-0 (omega arith) (λ line l. (rw (l.is_word 0 (omega arith)) c.in_ok-read-in-Strike-len2.ensures, rw (l.is_word 1 (omega arith)) c.in_ok-read-in-Strike-len2-2.ensures))

pub returns-in_ok-read-in-Bound-len3-3 : goal.returns-in_ok-read-in-Bound-len3-3
returns-in_ok-read-in-Bound-len3-3 c =
    step_told c.args.self c.args.words.now (Enter (BoundCall c.in_ok-read-in-Bound-len3.field-0 c.in_ok-read-in-Bound-len3-2.field-0 c.in_ok-read-in-Bound-len3-3.field-0)) c.in-Bound-len3.is-0 (omega arith) (λ line l. (rw (l.is_word 0 (omega arith)) c.in_ok-read-in-Bound-len3.ensures, rw (l.is_word 1 (omega arith)) c.in_ok-read-in-Bound-len3-2.ensures, rw (l.is_word 2 (omega arith)) c.in_ok-read-in-Bound-len3-3.ensures.0))

pub returns-in_ok-read-in-Level-len1 : goal.returns-in_ok-read-in-Level-len1
returns-in_ok-read-in-Level-len1 c =
    step_told c.args.self c.args.words.now (Enter (LevelCall c.in_ok-read-in-Level-len1.field-0)) c.in-Level-len1.is-0 (omega arith) (λ line l. rw (l.is_word 0 (omega arith)) c.in_ok-read-in-Level-len1.ensures.0)

pub returns-in-Settle-len1 : goal.returns-in-Settle-len1
returns-in-Settle-len1 c =
    step_told c.args.self c.args.words.now (SettleStep c.in_ok-read-in-Settle-len1.field-0) c.in-Settle-len1.is-0 (omega arith) (λ line l. rw (l.is_word 0 (omega arith)) c.in_ok-read-in-Settle-len1.ensures.0)
