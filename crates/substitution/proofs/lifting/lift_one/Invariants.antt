use Rattle.std.proofs.Common.{◌≡◌, length, take, drop, pos}
use Rattle.substitution.specs.Lifting.{add_terms, carried_weights}
use Rattle.substitution.specs.Holding.{kepts}
use Rattle.substitution.proofs.lifting.lift_one.Given as goal

-- the rows that are not yielded yet are to be added
abbrev pub invariant-loop-weight : goal.invariant-loop-weight
invariant-loop-weight l =
    (add_terms (pos 0) (take (length l.rows) l.below.values) (carried_weights l.place (kepts l.rows))
    ≡ add_terms l.sum (drop (length l.yielded) (take (length l.rows) l.below.values)) (drop (length l.yielded) (carried_weights l.place (kepts l.rows))))
    × (goal.iterator-loop-weight).can_next l.weight-iterator
    × (goal.iterator-loop-weight).is_finite l.weight-iterator
