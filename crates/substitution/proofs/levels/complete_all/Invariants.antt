use Rattle.std.proofs.Common.{◌≡◌, [], take}
use Rattle.substitution.specs.Lifting.{all_completed}
use Rattle.substitution.specs.Holding.{latest_first}
use Rattle.substitution.proofs.levels.complete_all.Given as goal

-- the pivots from place i on are done
abbrev pub invariant-loop-i : goal.invariant-loop-i
invariant-loop-i l =
    all_completed (latest_first (take l.i l.pivots) []) l.levels.numerators l.levels.denominator
    ≡ all_completed (latest_first l.pivots []) l.below.numerators l.below.denominator
