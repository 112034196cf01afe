-- What `push` leaves to show. Assumes nothing.
use Rattle.std.proofs.Common.{w64, SFits, rules, arith}
use Rattle.std.proofs.lemmas.Int.{to_z-of_z}
use Rattle.plantext.proofs.Holding.{held_more}
use Rattle.plantext.proofs.numbers.Numbers.push.Goals as goal

pub invariant_of-self : goal.invariant_of-self
invariant_of-self c =
    let f : SFits w64 c.args.value = search rules in
    simp to_z-of_z (held_more c.self.inside c.args.value c.self.invariant (omega arith))
