use Rattle.std.proofs.Common.{◌≡◌, Bool, cond, length, pos, negsuc, sym, ap, ◌∙◌, subst}
use lib.Signed.{lt_z}
use Rattle.integers.specs.Vectors.{scale}
use Rattle.integers.proofs.VectorLaws.{length_scale}
use Rattle.rows.specs.Limits.{EachWithin}
use Rattle.rows.specs.declared.carried.Carried.{Carried}
use Rattle.rows.specs.Carrying.{numbers_of}
use Rattle.substitution.specs.Reduction.{contradiction}
use Rattle.substitution.specs.Clashing.{opposite_within}
use Rattle.substitution.proofs.pivoting.contradiction.Goals as goal
use Rattle.substitution.proofs.pivoting.contradiction.Goals.{then-row-gt0, else-row-gt0}

by_side : (r : Carried) (t : Bool) → lt_z (pos 0) r.side ≡ t → contradiction (numbers_of r) ≡ cond t (scale (negsuc 0) r.weights) r.weights
by_side r t e = ap (λ (b : Bool). cond b (scale (negsuc 0) r.weights) r.weights) e

pub invariant_of-result : goal.invariant_of-result
invariant_of-result c =
    let r = c.args.row.now in
    elim c.if-row-gt0.branch [
      | then-row-gt0 w ↦ record { places = ap length (w.values-is ∙ w.negated-values.ensures) ∙ length_scale (negsuc 0) r.weights ∙ r.loads; within = subst EachWithin (sym (w.values-is ∙ w.negated-values.ensures)) (opposite_within r.weights r.light) }
      | else-row-gt0 w ↦ record { places = ap length w.values-is ∙ r.loads; within = subst EachWithin (sym w.values-is) r.light }
    ]
