-- What `push_carried` leaves to show. Assumes nothing.
use Rattle.std.proofs.Common.{◌++◌, map, pos, sym, refl, ap, ◌∙◌, arith}
use Rattle.engine.specs.Refusals.{cause_number, carries}
use Rattle.protocol.specs.Lines.{item, items}
use Rattle.protocol.proofs.Appending.{few_then, few_as}
use Rattle.protocol.proofs.Itemizing.{items_three}
use Rattle.protocol.proofs.line.Line.push_carried.Goals as goal

pub returns-in-TooLarge : goal.returns-in-TooLarge
returns-in-TooLarge c =
    few_as 36 36 (few_then 24 12 (few_then 12 12 c.push_number-in-TooLarge.ensures c.push_number-in-TooLarge-2.ensures) c.push_number-in-TooLarge-3.ensures)
    ((λ j. (item (pos (c.from-in-TooLarge.ensures j)) ++ item (pos ((c.from-in-TooLarge-2.ensures ∙ c.number.ensures) j))) ++ item (pos (c.from-in-TooLarge-3.ensures j)))
    ∙ items_three c.in-TooLarge.fault.layer (cause_number c.in-TooLarge.fault.cause) c.in-TooLarge.fault.index
    ∙ ap (λ r. items (map pos (carries r))) (sym c.in-TooLarge.is)) (omega arith) refl
