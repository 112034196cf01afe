-- What `push_digits` leaves to show. Assumes nothing.
use Rattle.std.proofs.Common.{arith}
use Rattle.protocol.proofs.Appending.{appends_none, appends_on, appends_as}
use Rattle.protocol.proofs.Digits.{longer, last_digit, only_digit, some}
use Rattle.protocol.proofs.line.Line.+push_digits.Goals as goal
use Rattle.protocol.proofs.line.Line.+push_digits.Goals.{then-n-ge10, else-n-ge10}

pub push_digits-requires : goal.push_digits-requires
push_digits-requires t c = (omega arith, omega (arith, longer c.args.n (omega arith) (omega arith)))

pub push-requires : goal.push-requires
push-requires t c = elim c.if-n-ge10.branch [
  | then-n-ge10 w ↦ rw w.self-is (omega (arith, longer c.args.n (omega arith) (omega arith), w.push_digits.ensures.len))
  | else-n-ge10 w ↦ rw w.self-is (omega (arith, some c.args.n (omega arith)))
]

pub returns : goal.returns
returns t c = elim c.if-n-ge10.branch [
  | then-n-ge10 w ↦ appends_as (appends_on c.if-n-ge10.self w.push_digits.ensures w.self-is c.push.ensures) (last_digit c.args.n (omega arith) (omega arith))
  | else-n-ge10 w ↦ appends_as (appends_on c.if-n-ge10.self (appends_none c.args.self.now) w.self-is c.push.ensures) (only_digit c.args.n (omega arith))
]
