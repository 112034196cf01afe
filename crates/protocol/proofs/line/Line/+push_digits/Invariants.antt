-- The measure of `push_digits`: the number. Assumes nothing.
use Rattle.protocol.proofs.line.Line.+push_digits.Given as goal

abbrev pub decreases-push-digits : goal.decreases-push-digits
decreases-push-digits l = l.n
