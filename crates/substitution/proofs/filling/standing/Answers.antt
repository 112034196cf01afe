use Rattle.std.proofs.Common.{arith, length-append}
use Rattle.substitution.proofs.Listed.{listed_more}
use Rattle.substitution.proofs.filling.standing.Goals as goal

pub loop-place-preserved : goal.loop-place-preserved
loop-place-preserved c =
    rw c.push.ensures (
      listed_more c.args.rows.now c.loop-place.held c.loop-place.place c.index-rows-place.result c.listed.result c.loop-place-test.true c.index-rows-place.is c.listed.ensures c.loop-place.invariant.0,
      simp length-append (omega (arith, c.loop-place.invariant.1)),
    )
