-- What `marks_of` leaves to show. Assumes nothing.
use Rattle.std.proofs.Common.{◌<◌, true, false, length, ◌∙◌, arith}
use Rattle.std.proofs.lemmas.List.{length-set, get_or-set_other}
use Rattle.console.proofs.Feeding.{read_sounds}
use Rattle.console.proofs.Marking.{mark_sounding, mark_muted, marks_whole}
use Rattle.console.proofs.blaming.marks_of.Goals as goal
use Rattle.console.proofs.blaming.marks_of.Goals.{then-rule, else-rule}

pub loop-number-preserved : goal.loop-number-preserved
loop-number-preserved c =
    let l = c.loop-number in
    let rules = c.args.rules.now in
    let rule = c.index-rules-number.result in
    let room : l.number < length l.marks = omega (arith, l.invariant.0, c.loop-number-test.true, c.requires) in
    elim c.if-rule.branch [
      | then-rule w ↦ rw w.marks-is (
        length-set l.marks l.number _ ∙ l.invariant.0,
        (λ k h. get_or-set_other l.marks l.number k _ 0 (λ e. omega (arith, h, e)) ∙ l.invariant.1 k (omega (arith, h))),
        mark_sounding rules l.number rule c.loop-number-test.true l.marks room (read_sounds rules l.number rule true c.index-rules-number.is w.if-rule.true) l.invariant.2,
      )
      | else-rule w ↦ rw w.marks-is (
        l.invariant.0,
        (λ k h. l.invariant.1 k (omega (arith, h))),
        mark_muted rules l.number rule c.loop-number-test.true l.marks room (read_sounds rules l.number rule false c.index-rules-number.is w.if-rule.false) l.invariant.1 l.invariant.2,
      )
    ]

pub returns : goal.returns
returns c =
    let l = c.loop-number in
    marks_whole c.args.rules.now l.marks l.number (omega (arith, c.loop-number-test.false, l.auto.number-end)) c.requires l.invariant.0 l.invariant.1 l.invariant.2
