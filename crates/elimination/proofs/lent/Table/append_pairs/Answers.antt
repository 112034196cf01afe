use Rattle.std.proofs.Common.{Ok, Err, get_or, sym, ap, ◌∙◌, arith}
use Rattle.elimination.specs.declared.cell.Cell.{Cell}
use Rattle.elimination.specs.Lines.{line}
use Rattle.elimination.proofs.PairSteps.{inner_more, inner_ends, outer_row, outer_skips, outer_stops}
use Rattle.elimination.proofs.lent.Table.append_pairs.Goals as goal
use Rattle.elimination.proofs.lent.Table.append_pairs.Goals.{then-stands_on+else-loop-j-test, else-stands_on}

pub loop-j-preserved : goal.loop-j-preserved
loop-j-preserved c =
    let a = c.loop-i.invariant in
    inner_more c.args.fader.index c.args.self.now.held c.loop-i.self.held c.loop-j.j c.loop-j.self.held (line (get_or c.loop-i.self.cells.now c.loop-i.i c.index-self-i.result)) c.loop-i.self.cells.now c.loop-j.self.cells.now (Ok c.append_pair.new.self.held) c.append_pair.new.self.cells.now
    a.0 c.loop-i.self.places c.loop-j-test.true c.loop-j.invariant c.in_default.ensures

pub loop-i-preserved : goal.loop-i-preserved
loop-i-preserved c =
    let k = c.args.fader.index in
    let a = c.loop-i.invariant in
    elim c.if-stands_on.branch [
      | then-stands_on+else-loop-j-test w ↦
          rw w.self-is (outer_row k c.args.self.now.held c.loop-i.i c.loop-i.self.held c.args.self.now.cells.now c.loop-i.self.cells.now (get_or c.loop-i.self.cells.now c.loop-i.i c.index-self-i.result) c.args.self.now.places c.args.self.now.few c.loop-i-test.true a (ap (λ (y : Cell). get_or c.loop-i.self.cells.now c.loop-i.i y) c.index-self-i.is)
          (Ok w.loop-j.self.held) w.loop-j.self.cells.now (sym c.stands_on.ensures ∙ w.if-stands_on.true)
          (inner_ends k c.args.self.now.held c.loop-i.self.held w.loop-j.j w.loop-j.self.held (line (get_or c.loop-i.self.cells.now c.loop-i.i c.index-self-i.result)) c.loop-i.self.cells.now w.loop-j.self.cells.now w.loop-j-test.false (omega (arith, a.2, c.args.self.now.few, c.args.self.now.places)) w.loop-j.invariant))
      | else-stands_on w ↦
          rw w.self-is (outer_skips k c.args.self.now.held c.loop-i.i c.loop-i.self.held c.args.self.now.cells.now c.loop-i.self.cells.now (get_or c.loop-i.self.cells.now c.loop-i.i c.index-self-i.result) c.args.self.now.places c.args.self.now.few c.loop-i-test.true a (ap (λ (y : Cell). get_or c.loop-i.self.cells.now c.loop-i.i y) c.index-self-i.is)
          (sym c.stands_on.ensures ∙ w.if-stands_on.false))
    ]

pub returns-in-Err : goal.returns-in-Err
returns-in-Err c =
    let k = c.args.fader.index in
    let a = c.loop-i.invariant in
    outer_stops k c.args.self.now.held c.loop-i.i c.loop-i.self.held c.args.self.now.cells.now c.loop-i.self.cells.now (get_or c.loop-i.self.cells.now c.loop-i.i c.index-self-i.result) c.args.self.now.places c.args.self.now.few c.loop-i-test.true a (ap (λ (y : Cell). get_or c.loop-i.self.cells.now c.loop-i.i y) c.index-self-i.is)
    c.loop-j.j c.in-Err.fault c.append_pair.new.self.cells.now c.append_pair.new.self.cells.now (sym c.stands_on.ensures ∙ c.if-stands_on.true)
    (inner_more k c.args.self.now.held c.loop-i.self.held c.loop-j.j c.loop-j.self.held (line (get_or c.loop-i.self.cells.now c.loop-i.i c.index-self-i.result)) c.loop-i.self.cells.now c.loop-j.self.cells.now (Err c.in-Err.fault) c.append_pair.new.self.cells.now
    a.0 (omega (arith, a.2, c.args.self.now.places)) c.loop-j-test.true c.loop-j.invariant c.in-Err.ensures)
