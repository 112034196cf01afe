use Rattle.std.proofs.Common.{take, sym, ap, ◌∙◌, arith}
use Rattle.elimination.specs.declared.cell.Cell.{Cell}
use Rattle.elimination.specs.Table.{set_aside}
use Rattle.elimination.specs.Lines.{line}
use Rattle.elimination.proofs.Retiring.{retired_more, left_more}
use Rattle.elimination.proofs.lent.Table.retire.Goals as goal

pub loop-cell-preserved : goal.loop-cell-preserved
loop-cell-preserved c =
    let k = c.args.fader.index in
    let o = take c.args.first c.args.self.now.cells.now in
    let t = c.loop-cell.cell-items in
    let i = c.loop-cell.cell-index in
    let x = c.cell-item.result in
    let r = c.retired.ensures ∙ ap (λ (y : Cell). set_aside k (line y)) (sym c.cell-item.is) in (
      retired_more (set_aside k) i o t x c.retired.result (omega (arith, c.loop-cell.auto.cell-items)) c.loop-cell-test.true c.loop-cell.invariant.0 c.loop-cell.invariant.1 c.cell-item.is r,
      left_more (set_aside k) i o t x c.retired.result (omega (arith, c.loop-cell.auto.cell-items)) c.loop-cell-test.true c.loop-cell.invariant.0 c.loop-cell.invariant.1 c.cell-item.is r,
    )
