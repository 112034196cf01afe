-- What `coefficients` leaves to show. Assumes nothing.
use Rattle.std.proofs.Common.{◌∙◌, rules}
use Rattle.plans.specs.Ranges.{coefficient_range}
use Rattle.plancheck.proofs.Beyond.{each_is}
use Rattle.plancheck.proofs.Mapped.{mapped_same}
use Rattle.plancheck.proofs.numbers.coefficients.Goals as goal

pub returns : goal.returns
returns c =
    mapped_same c.each.result c.map_err.result _ (λ e k p. search rules) c.map_err.ensures.cases
    ∙ each_is coefficient_range 6 c.args.values.now c.each.result (search rules) c.each.ensures.ok c.each.ensures.err
