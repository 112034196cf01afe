use Rattle.std.proofs.Common.{ℕ, ◌/◌, ◌<◌, List, length, ℤ, pos, sym, ap, ◌∙◌, subst, arith}
use lib.Signed.{quot_z}
use Rattle.std.proofs.lemmas.List.{length-map}
use Rattle.integers.specs.Fractions.{Least, Same}
use Rattle.rows.specs.Limits.{EachWithin}
use Rattle.rows.specs.Presets.{divided}
use Rattle.rows.proofs.Blends.{all_near_each}
use Rattle.rows.proofs.Reducing.{quotient_above, reduced_least, reduced_same}
use Rattle.rows.proofs.preset.Preset.least.Goals as goal

pub invariant_of-result : goal.invariant_of-result
invariant_of-result c =
    let ns = c.args.numerators.now in
    let d = c.args.denominator in
    let g = c.common_divisor-shared.result in
    let o = c.in_ok-reduced.ensures.1 in record {
      places = ap length o ∙ length-map ns (λ n. quot_z n (pos g)) ∙ c.told-numerators;
      within = subst EachWithin (sym o) (all_near_each (divided g ns) c.in_ok-reduced.ensures.0);
      positive = subst (λ (x : ℕ). 0 < d / x) (sym c.common_divisor-shared.ensures.value) (quotient_above ns d (omega arith));
      bounded = c.if-least.false;
    }

pub returns-clause-lowest : goal.returns-clause-lowest
returns-clause-lowest c =
    let ns = c.args.numerators.now in
    let d = c.args.denominator in
    let pd : 0 < d = omega arith in
    let P : List ℤ → ℕ → Type 0 = λ zs x. Least zs (d / x) × Same zs (d / x) ns d in
    subst (λ (zs : List ℤ). P zs c.common_divisor-shared.result) (sym c.in_ok-reduced.ensures.1) (subst (λ (x : ℕ). P (divided x ns) x) (sym c.common_divisor-shared.ensures.value) (reduced_least ns d pd, reduced_same ns d pd))
