use Rattle.std.proofs.Common.{◌∙◌, ap}
use Rattle.elimination.specs.Lines.{line}
use Rattle.elimination.specs.Working.{is_false}
use Rattle.elimination.specs.declared.cell.Cell.{Cell}
use Rattle.elimination.proofs.FalseRows.{false_chosen, kept_outcome}
use Rattle.elimination.proofs.choosing.choose_false.Goals as goal

pub returns : goal.returns
returns c =
    let x = c.index-table-i.result in
    let e = c.filter.ensures in
    kept_outcome e.0 x c.filter.result (e.1.1 ∙ ap (λ (y : Cell). is_false (line y)) e.1.2) e.2 ∙ false_chosen c.args.table.now c.in_ok-i.i x c.in_ok-i.ensures c.index-table-i.is
