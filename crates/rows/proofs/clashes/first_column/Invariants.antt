use Rattle.std.proofs.Common.{◌≡◌, ℕ, ◌<◌, pos}
use Rattle.rows.specs.Rows.{constraints}
use Rattle.rows.specs.Clashes.{column}
use Rattle.rows.proofs.clashes.first_column.Given as goal

abbrev pub invariant-loop-k : goal.invariant-loop-k
invariant-loop-k l = (j : ℕ) → j < l.k → column l.weights.values (constraints l.rows) j ≡ pos 0
