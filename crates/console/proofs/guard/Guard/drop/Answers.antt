-- What the guard's end leaves to show. Assumes nothing.
use Rattle.std.proofs.Common.{false, sym, ◌∙◌, add-one, arith}
use Rattle.std.proofs.lemmas.List.{get_or_past, set-get_or}
use Rattle.console.proofs.Restoring.{restored_skips, restored_all, restored_turn}
use Rattle.console.proofs.guard.Guard.drop.Goals.{then-i-lt-ROWS+then-muted-i, else-i-lt-ROWS, else-i-lt-ROWS-via-then-i-lt-ROWS+else-muted-i, else-i-lt-ROWS-via-else-i-lt-ROWS}
use Rattle.console.proofs.guard.Guard.drop.Goals as goal

pub loop-i-preserved : goal.loop-i-preserved
loop-i-preserved c =
    let muted = c.args.self.muted in
    let rules = c.args.self.rules.now in
    rw add-one (elim c.if-i-lt-ROWS.branch [
      | then-i-lt-ROWS+then-muted-i w ↦ restored_turn muted rules c.loop-i.rules c.if-i-lt-ROWS.rules c.loop-i.i _ c.loop-i.invariant w.rules-is c.loop-i-test.true w.if-muted-i.true
      | else-i-lt-ROWS w ↦ elim w.else-i-lt-ROWS.branch [
        | else-i-lt-ROWS-via-then-i-lt-ROWS+else-muted-i w' ↦ w.rules-is ∙ w'.rules-is ∙ set-get_or c.loop-i.rules c.loop-i.i _ ∙ c.loop-i.invariant ∙ sym (restored_skips muted rules c.loop-i.i w'.if-muted-i.false)
        | else-i-lt-ROWS-via-else-i-lt-ROWS w' ↦ w.rules-is ∙ w'.rules-is ∙ set-get_or c.loop-i.rules c.loop-i.i _ ∙ c.loop-i.invariant ∙ sym (restored_skips muted rules c.loop-i.i (get_or_past muted c.loop-i.i false (omega arith)))
      ]
    ])

pub returns : goal.returns
returns c = c.loop-i.invariant ∙ restored_all c.args.self.muted c.args.self.rules.now c.loop-i.i c.loop-i-test.false
