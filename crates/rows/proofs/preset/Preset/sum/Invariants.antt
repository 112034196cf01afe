use Rattle.std.proofs.Common.{◌≡◌, ◌*◌, ◌≤◌, length, nat_abs}
use Rattle.integers.specs.Vectors.{dot}
use Rattle.rows.specs.Limits.{largest}
use Rattle.rows.proofs.Sums.{rest}
use Rattle.rows.proofs.preset.Preset.sum.Given as goal

abbrev pub invariant-loop-coefficient : goal.invariant-loop-coefficient
invariant-loop-coefficient l =
    (rest l.sum l.row.coefficients l.self.numerators (length l.yielded) ≡ dot l.row.coefficients l.self.numerators)
    × (nat_abs l.sum ≤ length l.yielded * (largest * largest))
