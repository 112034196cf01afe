-- What `preset_of` leaves to show. Assumes nothing.
use Rattle.std.proofs.Common.{ap, sym, subst, ◌∙◌, w64, SFits, rules}
use Rattle.std.proofs.lemmas.Int.{to_z-of_z}
use Rattle.rows.specs.Limits.{largest, EachWithin}
use Rattle.std.specs.Result.{result_ok}
use Rattle.plancheck.proofs.Beyond.{none_found, all_within, some_denominator}
use Rattle.plancheck.proofs.Mapped.{mapped_ok}
use Rattle.plancheck.proofs.claims.preset_of.Goals as goal

pub invariant_of-result : goal.invariant_of-result
invariant_of-result c =
    let zs = c.first_six-values.result in
    let some = mapped_ok c.narrow_each.result c.map_err.result _ c.in_ok-numerators.numerators c.map_err.ensures.cases c.in_ok-numerators.was in
    let n = none_found largest zs c.in_ok-numerators.numerators (sym some ∙ c.narrow_each.ensures) in
    let f : SFits w64 c.args.denominator = search rules in
    let whole = simp to_z-of_z at c.denominator_of.ensures in
    let is = ap result_ok (sym c.in_ok-denominator.was) ∙ sym c.ok_or.ensures.ok_part ∙ whole in
    let d = some_denominator c.args.denominator c.in_ok-denominator.denominator is in
    let e : EachWithin zs = all_within largest 0 zs n.0 in
    record {
      places = search rules;
      within = subst EachWithin (sym n.1) e;
      positive = d.0;
      bounded = d.1;
    }
