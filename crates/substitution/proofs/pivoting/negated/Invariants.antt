use Rattle.std.proofs.Common.{◌≡◌, take, drop, negsuc}
use Rattle.integers.specs.Vectors.{scale}
use Rattle.substitution.proofs.pivoting.negated.Given as goal

abbrev pub invariant-loop-value : goal.invariant-loop-value
invariant-loop-value l = (take l.value-index l.value-items ≡ take l.value-index (scale (negsuc 0) l.row.weights)) × (drop l.value-index l.value-items ≡ drop l.value-index l.row.weights)
