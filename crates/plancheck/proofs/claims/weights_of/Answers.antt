-- What `weights_of` leaves to show. Assumes nothing.
use Rattle.std.proofs.Common.{sym, subst, ◌∙◌, rules}
use Rattle.rows.specs.Limits.{largest, EachWithin}
use Rattle.plancheck.proofs.Beyond.{none_found, all_within}
use Rattle.plancheck.proofs.Mapped.{mapped_ok}
use Rattle.plancheck.proofs.claims.weights_of.Goals as goal

pub invariant_of-result : goal.invariant_of-result
invariant_of-result c =
    let zs = c.places.result.now in
    let some = mapped_ok c.narrow_each.result c.map_err.result _ c.in_ok-values.values c.map_err.ensures.cases c.in_ok-values.was in
    let n = none_found largest zs c.in_ok-values.values (sym some ∙ c.narrow_each.ensures) in
    let e : EachWithin zs = all_within largest 0 zs n.0 in
    record { places = search rules; within = subst EachWithin (sym n.1) e }
