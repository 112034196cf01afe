-- What `push_number` leaves to show. Assumes nothing.
use Rattle.std.proofs.Common.{◌∷◌, ◌++◌, decimal, sym, ap, arith}
use Rattle.std.specs.Fmt.{sign_text}
use Rattle.protocol.proofs.Appending.{appends_then, appends_on, appends_as}
use Rattle.protocol.proofs.Digits.{at_most_ten, at_most_twelve}
use Rattle.protocol.proofs.line.Line.push_number.Goals as goal
use Rattle.protocol.proofs.line.Line.push_number.Goals.{then-negative, else-negative}

pub push_digits-requires : goal.push_digits-requires
push_digits-requires c = elim c.if-negative.branch [
  | then-negative w ↦ rw w.self-is (omega (arith, at_most_ten c.args.size (omega arith)))
  | else-negative w ↦ rw w.self-is (omega (arith, at_most_ten c.args.size (omega arith)))
]

pub returns : goal.returns
returns c = record {
  appends = elim c.if-negative.branch [
    | then-negative w ↦ appends_as (appends_on c.if-negative.self (appends_then c.push.ensures w.push-then-negative.ensures) w.self-is c.push_digits.ensures) (ap (λ b. 32 ∷ (sign_text b ++ decimal c.args.size)) (sym w.if-negative.true))
    | else-negative w ↦ appends_as (appends_on c.if-negative.self c.push.ensures w.self-is c.push_digits.ensures) (ap (λ b. 32 ∷ (sign_text b ++ decimal c.args.size)) (sym w.if-negative.false))
  ];
  few = at_most_twelve c.args.negative c.args.size (omega arith);
}
