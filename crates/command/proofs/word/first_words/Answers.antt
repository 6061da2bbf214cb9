use Rattle.std.proofs.Common.{◌≡◌, ◌<◌, [], ◌∷◌, ◌++◌, eqb, get_or, length, refl, arith, rules, tests}
use Rattle.std.proofs.lemmas.Iterator.Consumers.{YieldsList-turn, YieldsList-end}
use Rattle.std.proofs.lemmas.Iterator.Splits.{YieldsList-from_slice_split}
use Rattle.std.proofs.lemmas.List.{length_push}
use Rattle.places.specs.Listed.{listed}
use Rattle.command.specs.Words.{words}
use Rattle.command.specs.declared.word.Word.{Word}
use Rattle.command.proofs.Cutting.{room, held_more, held_all}
use Rattle.command.proofs.word.first_words.Goals as goal

-- the turn gives the next word
turn : (c : goal.Else-is_err) → (length c.loop-bytes.yielded < length (words c.args.line.now)) × (c.in-Some.bytes.now ≡ get_or (words c.args.line.now) (length c.loop-bytes.yielded) c.in-Some.bytes.now)
turn c =
    let y = YieldsList-from_slice_split _ (λ b. eqb b 32) c.args.line.now (search rules) (search rules) (search rules) (λ x b q k. search (rules, tests)) in
    YieldsList-turn y c.loop-bytes.yielded _ c.loop-bytes.yielded_by _ _ c.in-Some.bytes c.in-Some.is c.next.ensures.steps

pub overflow_add-column-in-loop-bytes : goal.overflow_add-column-in-loop-bytes
overflow_add-column-in-loop-bytes c =
    let r = room c.args.line.now (length c.loop-bytes.yielded) c.loop-bytes.column (listed c.loop-bytes.list) c.in-Some.bytes.now c.loop-bytes.invariant.2 (turn c) in
    omega arith

pub loop-bytes-preserved : goal.loop-bytes-preserved
loop-bytes-preserved c =
    let item : Word = record { bytes = c.in-Some.bytes; column = c.loop-bytes.column } in
    let pushed : (length (listed c.loop-bytes.list) < 5) × (listed c.push.new.self ≡ listed c.loop-bytes.list ++ (item ∷ [])) = grind arith in
    let more = held_more c.args.line.now (length c.loop-bytes.yielded) c.loop-bytes.column (listed c.loop-bytes.list) c.in-Some.bytes.now c.loop-bytes.invariant.2 (turn c) item refl refl pushed.0 in
    (search rules, search rules, rw (length_push c.loop-bytes.yielded c.in-Some.bytes, pushed.1) more)

pub returns-in-None : goal.returns-in-None
returns-in-None c =
    let y = YieldsList-from_slice_split _ (λ b. eqb b 32) c.args.line.now (search rules) (search rules) (search rules) (λ x b q k. search (rules, tests)) in
    let t = YieldsList-end y c.loop-bytes.yielded _ c.loop-bytes.yielded_by _ _ c.in-None.is c.next.ensures.steps in
    held_all c.args.line.now (length c.loop-bytes.yielded) c.loop-bytes.column (listed c.loop-bytes.list) c.loop-bytes.invariant.2 t.1
