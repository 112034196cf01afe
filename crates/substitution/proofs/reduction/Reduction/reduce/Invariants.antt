use Rattle.std.proofs.Common.{◌≡◌, ◌+◌, ◌-◌, ◌≤◌, length}
use Rattle.substitution.specs.Outcomes.{ahead}
use Rattle.substitution.proofs.reduction.Reduction.reduce.Given as goal

abbrev pub invariant-loop-self : goal.invariant-loop-self
invariant-loop-self l =
    (ahead l.self ≡ ahead l.initial.self)
    × (length l.self.rows.now + length l.self.pivots.now ≤ length l.initial.self.rows.now + length l.initial.self.pivots.now)

abbrev pub decreases-loop-self : goal.decreases-loop-self
decreases-loop-self l = length l.self.rows.now - l.self.place
