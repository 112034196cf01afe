use Rattle.std.proofs.Common.{ℕ, ◌<◌, get_or, pos}
use Rattle.rows.specs.Limits.{Within}
use Rattle.rows.proofs.bounds.all_within.Given as goal

abbrev pub invariant-loop-z : goal.invariant-loop-z
invariant-loop-z l = (k : ℕ) → k < l.z-index → Within (get_or l.numbers k (pos 0))
