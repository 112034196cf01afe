use Rattle.std.proofs.Common.{◌≡◌, length, get_or, ℤ, pos, negsuc, ◌-ℤ◌, ◌*ℤ◌, sym, ap, ◌∙◌, subst, arith, w32, to_z, of_z, SFits}
use Rattle.std.proofs.lemmas.List.{take_all, length-drop}
use Rattle.integers.specs.Vectors.{scale}
use Rattle.integers.proofs.VectorLaws.{scale_at, length_scale}
use Rattle.rows.specs.Limits.{Within}
use Rattle.rows.proofs.Fits.{fits_32}
use Rattle.substitution.specs.Clashing.{opposite_within}
use Rattle.substitution.proofs.Places.{bits_are, minus_is, negated_more, same_at, left_more}
use Rattle.substitution.proofs.pivoting.negated.Goals as goal

pub overflow_sub-value : goal.overflow_sub-value
overflow_sub-value c =
    let ws = c.args.row.now.weights in
    let i = c.loop-value.value-index in
    let z = get_or ws i (pos 0) in
    let w : Within (negsuc 0 *ℤ z) = subst Within (scale_at (negsuc 0) ws i) (opposite_within ws c.args.row.now.light i) in
    let s = same_at i ws c.loop-value.value-items c.loop-value.invariant.1 i (pos 0) (omega arith) in
    subst (SFits w32) (sym (ap (λ (x : ℤ). pos 0 -ℤ to_z w32 (of_z w32 x)) s ∙ ap (λ (x : ℤ). pos 0 -ℤ x) (bits_are z (c.args.row.now.light i)) ∙ minus_is z)) (fits_32 (negsuc 0 *ℤ z) w)

pub loop-value-preserved : goal.loop-value-preserved
loop-value-preserved c =
    let ws = c.args.row.now.weights in
    let i = c.loop-value.value-index in
    let items = c.loop-value.value-items in
    let z = get_or ws i (pos 0) in
    let s = same_at i ws items c.loop-value.invariant.1 i (pos 0) (omega arith) in
    let m : pos 0 -ℤ to_z w32 (of_z w32 (get_or items i (pos 0))) ≡ negsuc 0 *ℤ z = ap (λ (x : ℤ). pos 0 -ℤ to_z w32 (of_z w32 x)) s ∙ ap (λ (x : ℤ). pos 0 -ℤ x) (bits_are z (c.args.row.now.light i)) ∙ minus_is z in
    let w : Within (negsuc 0 *ℤ z) = subst Within (scale_at (negsuc 0) ws i) (opposite_within ws c.args.row.now.light i) in
    let e = ap (λ (x : ℤ). to_z w32 (of_z w32 x)) m ∙ bits_are (negsuc 0 *ℤ z) w in (
      negated_more ws items i _ (omega (arith, c.args.row.now.loads)) (omega (arith, ap length c.loop-value.invariant.1, length-drop i items, length-drop i ws, c.args.row.now.loads)) e c.loop-value.invariant.0,
      left_more i ws items c.loop-value.invariant.1 _,
    )

pub returns : goal.returns
returns c =
    let ws = c.args.row.now.weights in
    let i = c.loop-value.value-index in
    sym (take_all i c.loop-value.value-items (omega arith)) ∙ c.loop-value.invariant.0 ∙ take_all i (scale (negsuc 0) ws) (omega (arith, length_scale (negsuc 0) ws, c.args.row.now.loads))
