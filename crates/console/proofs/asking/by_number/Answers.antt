-- What `by_number` leaves to show. Assumes nothing.
use Rattle.std.proofs.Common.{◌<◌, true, false, length, get_or, pos, ◌∙◌, arith, w32}
use Rattle.std.proofs.lemmas.Int.{to_z-of_z}
use Rattle.rows.proofs.Fits.{fits_32}
use Rattle.std.proofs.lemmas.List.{length-set, get_or-set_other}
use Rattle.console.proofs.Feeding.{read_sounds}
use Rattle.console.proofs.Spreading.{spread_sounding, spread_muted, spread_whole}
use Rattle.console.proofs.asking.by_number.Goals as goal
use Rattle.console.proofs.asking.by_number.Goals.{then-rule, else-rule}

pub loop-number-preserved : goal.loop-number-preserved
loop-number-preserved c =
    let l = c.loop-number in
    let rules = c.args.rules.now in
    let rule = c.index-rules-number.result in
    let ws = c.args.weights.now.values in
    let room : l.number < length l.spread = omega (arith, l.invariant.0, c.loop-number-test.true, c.requires) in
    elim c.if-rule.branch [
      | then-rule w ↦ rw (w.spread-is, w.place-is) (
        length-set l.spread l.number _ ∙ l.invariant.0,
        omega (arith, l.invariant.1),
        (λ k h. get_or-set_other l.spread l.number k _ (pos 0) (λ e. omega (arith, h, e)) ∙ l.invariant.2 k (omega (arith, h))),
        spread_sounding rules ws l.number l.place rule c.loop-number-test.true l.spread _ (to_z-of_z w32 (get_or ws l.place (pos 0)) (fits_32 (get_or ws l.place (pos 0)) (c.args.weights.now.within l.place))) room (read_sounds rules l.number rule true c.index-rules-number.is w.if-rule.true) l.invariant.3,
      )
      | else-rule w ↦ rw (w.spread-is, w.place-is) (
        l.invariant.0,
        omega (arith, l.invariant.1),
        (λ k h. l.invariant.2 k (omega (arith, h))),
        spread_muted rules ws l.number l.place rule c.loop-number-test.true l.spread room l.invariant.2 (read_sounds rules l.number rule false c.index-rules-number.is w.if-rule.false) l.invariant.3,
      )
    ]

pub returns : goal.returns
returns c =
    let l = c.loop-number in
    spread_whole c.args.rules.now c.args.weights.now.values l.spread l.number l.place (omega (arith, c.loop-number-test.false, l.auto.number-end)) c.requires l.invariant.0 l.invariant.2 l.invariant.3
