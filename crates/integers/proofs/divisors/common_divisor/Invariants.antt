-- What is left, from `g` on, has the common divisor of all. Assumes nothing.
use Rattle.std.proofs.Common.{◌≡◌, drop}
use Rattle.integers.specs.Divisors.{gcd_all}
use Rattle.integers.proofs.divisors.common_divisor.Given as goal

abbrev pub invariant-loop-v : goal.invariant-loop-v
invariant-loop-v l = gcd_all l.g (drop l.v-index l.values) ≡ gcd_all l.first l.values
