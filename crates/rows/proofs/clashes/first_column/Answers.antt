use Rattle.std.proofs.Common.{◌≡◌, ℤ, pos, sym, ap, ◌∙◌, inl, inr, arith, SFits, to_z, of_z, rules, below_more}
use mir.Syntax.{w128}
use Rattle.std.proofs.lemmas.Int.{to_z-of_z}
use Rattle.std.proofs.lemmas.Bool.{cases_lt}
use Rattle.rows.proofs.Weighing.{column_past}
use Rattle.rows.proofs.clashes.first_column.Goals as goal

-- a number whose bits are those of 0
zero_bits : (z : ℤ) → SFits w128 z → of_z w128 z ≡ 0 → z ≡ pos 0
zero_bits z f e = sym (to_z-of_z w128 z f) ∙ ap (to_z w128) e

pub returns-then-column-ne0 : goal.returns-then-column-ne0
returns-then-column-ne0 c = record {
  here = λ e. c.if-column-ne0.true (ap (of_z w128) (c.column.ensures ∙ e));
  before = c.loop-k.invariant;
}

pub loop-k-preserved : goal.loop-k-preserved
loop-k-preserved c =
    let f : SFits w128 c.column.result = search rules in
    below_more _ _ c.loop-k.invariant (sym c.column.ensures ∙ zero_bits c.column.result f c.if-column-ne0.false)

pub returns : goal.returns
returns c k = elim (cases_lt k 6) [
  | inl h ↦ c.loop-k.invariant k (omega arith)
  | inr h ↦ column_past c.args.weights.now.values c.args.rows.now k h
]
