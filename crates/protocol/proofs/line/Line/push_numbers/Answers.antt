-- What `push_numbers` leaves to show. Assumes nothing.
use Rattle.std.proofs.Common.{◌+◌, ◌*◌, get_or, ℤ, pos, refl, ap, arith, w32, SFits, to_z, of_z, rules}
use Rattle.std.proofs.lemmas.List.{take_all}
use Rattle.std.proofs.lemmas.Int.{to_z-of_z}
use Rattle.protocol.specs.Lines.{items}
use Rattle.protocol.proofs.Appending.{few_then, few_as}
use Rattle.protocol.proofs.Itemizing.{item_by_sign, items_more}
use Rattle.protocol.proofs.line.Line.push_numbers.Goals as goal

pub loop-z-preserved : goal.loop-z-preserved
loop-z-preserved c =
    let z : ℤ = get_or c.args.numbers.now c.loop-z.z-index (pos 0) in
    let fits : SFits w32 (get_or c.args.numbers.now c.loop-z.z-index (pos 0)) = search rules in
    few_as (12 * c.loop-z.z-index + 12) _ (few_then (12 * c.loop-z.z-index) 12 c.loop-z.invariant c.push_number.ensures)
    (items_more c.args.numbers.now c.loop-z.z-index _ (omega arith) (item_by_sign (to_z w32 (of_z w32 z)) z c.unsigned_abs.result (to_z-of_z w32 z fits) c.unsigned_abs.ensures.value)) (omega arith) refl

pub returns : goal.returns
returns c = few_as (12 * c.loop-z.z-index) _ c.loop-z.invariant (ap items (take_all c.loop-z.z-index c.args.numbers.now (omega arith))) (omega arith) refl
