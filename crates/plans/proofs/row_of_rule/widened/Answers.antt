use Rattle.std.proofs.Common.{◌<◌, List, [], ◌∷◌, ◌++◌, length, get_or, ℤ, pos, sym, refl, ap, ◌∙◌, arith, w16, w32, SFits, rules}
use Rattle.std.proofs.lemmas.Int.{to_z-of_z, ints}
use Rattle.std.proofs.lemmas.List.{length-set, take_all, take_more, take_more_set}
use Rattle.rows.specs.Limits.{Within}
use Rattle.rows.proofs.Fits.{zeros_within, within_set}
use Rattle.plans.proofs.row_of_rule.widened.Goals as goal

pub loop-k-init : goal.loop-k-init
loop-k-init c = (refl, refl, zeros_within 6)

pub loop-k-preserved : goal.loop-k-preserved
loop-k-preserved c =
    let zs = c.args.coefficients.now in
    let k = c.loop-k.k in
    let wide = c.loop-k.wide in
    let inv = c.loop-k.invariant in
    let z = get_or zs k (pos 0) in
    let f : SFits w16 z = search rules in
    let g : SFits w32 z = omega (arith, ints) in
    let near : Within z = omega (arith, ints) in
    let h : k < length wide = omega arith in
    simp to_z-of_z (
      length-set wide k z ∙ inv.0,
      take_more_set wide k z h ∙ ap (λ (before : List ℤ). before ++ z ∷ []) inv.1 ∙ sym (take_more zs k (pos 0) (omega arith)),
      within_set wide k z inv.2 near,
    )

pub returns : goal.returns
returns c = record {
  same = sym (take_all c.loop-k.k c.loop-k.wide (omega arith)) ∙ c.loop-k.invariant.1 ∙ take_all c.loop-k.k c.args.coefficients.now (omega arith);
  within = c.loop-k.invariant.2;
}
