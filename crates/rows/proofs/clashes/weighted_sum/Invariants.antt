use Rattle.std.proofs.Common.{◌≡◌, ◌*◌, ◌≤◌, length, nat_abs}
use Rattle.integers.specs.Vectors.{dot}
use Rattle.rows.specs.Limits.{largest}
use Rattle.rows.specs.Rows.{constraints}
use Rattle.rows.specs.Parts.{numbers}
use Rattle.rows.proofs.Sums.{rest}
use Rattle.rows.proofs.clashes.weighted_sum.Given as goal

abbrev pub invariant-loop-weight : goal.invariant-loop-weight
invariant-loop-weight l =
    (rest l.sum l.weights.values (numbers l.part (constraints l.rows)) (length l.yielded) ≡ dot l.weights.values (numbers l.part (constraints l.rows)))
    × (nat_abs l.sum ≤ length l.yielded * (largest * largest))
