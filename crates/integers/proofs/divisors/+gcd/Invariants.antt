-- The second number falls at each call. Assumes nothing.
use Rattle.integers.proofs.divisors.+gcd.Given as goal

abbrev pub decreases-gcd : goal.decreases-gcd
decreases-gcd l = l.b
