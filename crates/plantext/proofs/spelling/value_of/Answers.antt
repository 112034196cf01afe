-- What `value_of` leaves to show. Assumes nothing.
use Rattle.std.proofs.Common.{ap, ◌∙◌, arith, rules}
use Rattle.std.proofs.lemmas.List.{take_all}
use Rattle.std.specs.Str.Parse.{digits_value}
use Rattle.plantext.proofs.Spelt.{digit_in, value_small, value_next, digits_next}
use Rattle.plantext.proofs.spelling.value_of.Goals as goal

pub overflow_mul-n : goal.overflow_mul-n
overflow_mul-n c = let v = value_small c.args.digits.now c.loop-b.b-index c.loop-b.invariant.1 (omega arith) in search rules

pub overflow_sub-b : goal.overflow_sub-b
overflow_sub-b c = (digit_in c.args.digits.now c.loop-b.b-index c.requires.digits c.loop-b-test.true).0

pub overflow_add-n : goal.overflow_add-n
overflow_add-n c =
    let v = value_small c.args.digits.now c.loop-b.b-index c.loop-b.invariant.1 (omega arith) in
    let d = digit_in c.args.digits.now c.loop-b.b-index c.requires.digits c.loop-b-test.true in
    search rules

pub loop-b-preserved : goal.loop-b-preserved
loop-b-preserved c = (
  let v = value_next c.args.digits.now c.loop-b.b-index c.requires.digits c.loop-b-test.true in omega arith,
  digits_next c.args.digits.now c.loop-b.b-index c.requires.digits c.loop-b-test.true c.loop-b.invariant.1,
)

pub returns : goal.returns
returns c =
    let v = value_small c.args.digits.now c.loop-b.b-index c.loop-b.invariant.1 (omega arith) in
    record { value = c.loop-b.invariant.0 ∙ ap (digits_value 10) (take_all _ _ c.loop-b-test.false); bound = omega arith }
