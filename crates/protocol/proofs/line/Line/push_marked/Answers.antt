-- What `push_marked` leaves to show. Assumes nothing.
use Rattle.std.proofs.Common.{◌+◌, ◌*◌, refl, ap, arith}
use Rattle.std.proofs.lemmas.List.{take_all}
use Rattle.protocol.specs.Lines.{items, marked}
use Rattle.protocol.proofs.Appending.{few_then, few_as}
use Rattle.protocol.proofs.Itemizing.{items_marked, items_unmarked}
use Rattle.protocol.proofs.line.Line.push_marked.Goals as goal
use Rattle.protocol.proofs.line.Line.push_marked.Goals.{then-mark-ne0, else-mark-ne0}

pub loop-number-preserved : goal.loop-number-preserved
loop-number-preserved c =
    let l = c.loop-number in
    elim c.if-mark-ne0.branch [
      | then-mark-ne0 w ↦ few_as (12 * l.number + 12) _ (few_then (12 * l.number) 12 l.invariant w.push_number.ensures) (items_marked c.args.marks.now l.number (omega arith) w.if-mark-ne0.true) (omega arith) w.self-is
      | else-mark-ne0 w ↦ few_as (12 * l.number) _ l.invariant (items_unmarked c.args.marks.now l.number (omega arith) w.if-mark-ne0.false) (omega arith) w.self-is
    ]

pub returns : goal.returns
returns c = few_as (12 * c.loop-number.number) _ c.loop-number.invariant (ap (λ ms. items (marked 0 ms)) (take_all c.loop-number.number c.args.marks.now (omega arith))) (omega arith) refl
