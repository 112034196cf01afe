-- `common_divisor` keeps the common divisor of all in each turn. Assumes nothing.
use Rattle.std.proofs.Common.{◌≡◌, ℕ, ◌+◌, get_or, drop, pos, sym, ap, ◌∙◌, w64, SFits, rules}
use Rattle.std.proofs.lemmas.List.{at_drop_more, at_drop_all}
use Rattle.std.proofs.lemmas.Int.{to_z-of_z}
use Rattle.integers.specs.Divisors.{gcd_of, gcd_all}
use Rattle.integers.proofs.DivisorLaws.{gcd_all_is_gcd_all}
use Rattle.integers.proofs.divisors.common_divisor.Goals as goal

pub loop-v-preserved : goal.loop-v-preserved
unfolding gcd_all
loop-v-preserved c =
    let v = get_or c.args.values.now c.loop-v.v-index (pos 0) in
    let fits : SFits w64 v = search rules in
    let size = simp to_z-of_z at c.unsigned_abs.ensures.value in
    let rest = drop (c.loop-v.v-index + 1) c.args.values.now in
    ap (λ (g : ℕ). gcd_all g rest) (c.gcd-g.ensures.value ∙ ap (gcd_of c.loop-v.g) size)
    ∙ sym (at_drop_more (gcd_all c.loop-v.g) c.args.values.now c.loop-v.v-index (pos 0) c.loop-v-test.true)
    ∙ c.loop-v.invariant

pub returns : goal.returns
unfolding gcd_all
returns c =
    let e : c.loop-v.g ≡ gcd_all c.args.first c.args.values.now =
    sym (at_drop_all (gcd_all c.loop-v.g) c.args.values.now c.loop-v.v-index c.loop-v-test.false) ∙ c.loop-v.invariant in
    record { value = e; greatest = rw e (gcd_all_is_gcd_all c.args.first c.args.values.now) }
