use Rattle.std.proofs.Common.{◌≡◌, [], ◌++◌, length, take, drop, Err, sym, refl, ap, ◌∙◌, subst, arith, rules}
use Rattle.std.proofs.lemmas.List.{length-take-le}
use Rattle.std.proofs.lemmas.Result.{err_from_is_err_and}
use Rattle.settling.specs.Posed.{meant}
use Rattle.settling.specs.Promise.{Settling}
use Rattle.settling.specs.Settling.{Lawful}
use Rattle.settling.specs.declared.fault.SearchFault.TheVariants.{NoScale}
use Rattle.settling.proofs.Descent.{first_on}
use Rattle.settling.proofs.Settled.{few_entered, some_tones, refused, spent_settles, none_settles, best_settles}
use Rattle.settling.proofs.yardstick.Yardstick.settle.Given.{Over}
use Rattle.settling.proofs.yardstick.Yardstick.settle.Goals as goal

lawful : (g : Over) → Lawful (meant g.C.Costing)
lawful g =
    let met = g.met.C.Costing in
    record {
      associative = met.associative;
      commutative = met.commutative;
      neutral = met.neutral;
      reflexive = met.reflexive;
      transitive = met.transitive;
      total = met.comparable;
      antisymmetric = met.antisymmetric;
      grows = met.grows;
    }

pub returns-in_err-descend : goal.returns-in_err-descend
returns-in_err-descend g c =
    let sheet = c.args.sheet.now in
    let places = length c.args.stack.now in
    let some = some_tones c.tones-tones.ensures.by_book c.if-tones-eq0.false in
    let first = first_on c.push.result c.push.ensures.put c.over.ensures.empty c.nothing.ensures (omega (arith, c.over.ensures.size, c.if-stack-lt-STACK_PLACES.false)) in
    let over = c.in_err-descend.ensures.searched [] g.C.Costing.nil first in
    let is = err_from_is_err_and c.from_residual.result c.from_residual.ensures.1 in
    record {
      settles = λ b h. subst (λ r. Settling (g.M.Measure.dist c.args.self.now.measure.now) (meant g.C.Costing) b c.args.allowance places r sheet sheet) (sym (is.1 ∙ ap Err is.2))
          (spent_settles _ _ (lawful g) _ _ places c.if-allowance-gt-LARGEST_ALLOWANCE.false c.if-stack-lt-STACK_PLACES.false some _ refl refl over b h sheet);
    }

pub returns-in_err-best : goal.returns-in_err-best
returns-in_err-best g c =
    let sheet = c.args.sheet.now in
    let places = length c.args.stack.now in
    let some = some_tones c.tones-tones.ensures.by_book c.if-tones-eq0.false in
    let first = first_on c.push.result c.push.ensures.put c.over.ensures.empty c.nothing.ensures (omega (arith, c.over.ensures.size, c.if-stack-lt-STACK_PLACES.false)) in
    let went = c.in_ok-descend.ensures.searched [] g.C.Costing.nil first in
    let none = c.in_err-best.ensures.ok_part in
    let is = err_from_is_err_and c.from_residual-in_err-best.result c.from_residual-in_err-best.ensures.1 in
    let fault = is.2 ∙ refused c.descend.new.search.best _ (NoScale c.descend.new.search.trials) none c.in_err-best.ensures.value in
    record {
      settles = λ b h. subst (λ r. Settling (g.M.Measure.dist c.args.self.now.measure.now) (meant g.C.Costing) b c.args.allowance places r sheet sheet) (sym (is.1 ∙ ap Err fault))
          (none_settles _ _ (lawful g) _ _ places c.if-allowance-gt-LARGEST_ALLOWANCE.false c.if-stack-lt-STACK_PLACES.false some _ refl refl _ went none b h sheet);
    }

pub slice_bounds-copy_from_slice-end : goal.slice_bounds-copy_from_slice-end
slice_bounds-copy_from_slice-end g c = few_entered c.tones-tones.ensures.by_book

pub returns : goal.returns
returns g c =
    let some = some_tones c.tones-tones.ensures.by_book c.if-tones-eq0.false in
    let first = first_on c.push.result c.push.ensures.put c.over.ensures.empty c.nothing.ensures (omega (arith, c.over.ensures.size, c.if-stack-lt-STACK_PLACES.false)) in
    let went = c.in_ok-descend.ensures.searched [] g.C.Costing.nil first in
    let sheet = c.args.sheet.now in
    let n = c.tones-tones.result in
    let best = c.in_ok-best.best in
    let after = c.copy_from_slice.ensures.after in
    let within = few_entered c.tones-tones.ensures.by_book in
    let long : length (take n best.sheet) ≡ n = ap length (sym after) ∙ (c.copy_from_slice.ensures.len ∙ length-take-le n sheet (search rules)) in
    record {
      settles = λ b h. best_settles _ _ (lawful g) _ _ _ c.if-allowance-gt-LARGEST_ALLOWANCE.false c.if-stack-lt-STACK_PLACES.false some _ refl refl _ went best c.in_ok-best.ensures.ok_part b h sheet _ n (c.tones-tones.ensures.by_book b h) long (ap (λ xs. xs ++ drop n sheet) after);
    }
