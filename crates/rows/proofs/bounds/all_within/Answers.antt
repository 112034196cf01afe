use Rattle.std.proofs.Common.{length, refl, inl, inr, arith}
use Rattle.std.proofs.lemmas.Bool.{cases_lt}
use Rattle.rows.proofs.Fits.{past_within}
use Rattle.rows.proofs.bounds.all_within.Goals as goal

pub returns : goal.returns
returns c = (
  (λ _ k. elim (cases_lt k (length c.args.numbers.now)) [
    | inl h ↦ c.loop-z.invariant k (omega arith)
    | inr h ↦ past_within c.args.numbers.now k h
  ]),
  λ _. refl,
)
