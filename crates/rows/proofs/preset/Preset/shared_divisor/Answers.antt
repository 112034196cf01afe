use Rattle.std.proofs.Common.{rules}
use Rattle.integers.specs.Divisors.{IsGcdAll}
use Rattle.integers.proofs.FractionLaws.{least_from_one, one_from_least}
use Rattle.rows.proofs.preset.Preset.shared_divisor.Goals as goal

pub returns-clause-least : goal.returns-clause-least
returns-clause-least c =
    let p = c.args.self.now in
    let r = c.common_divisor.result in
    let a : IsGcdAll p.denominator p.numerators r = search rules in
    (least_from_one p.numerators p.denominator r a, one_from_least p.numerators p.denominator r a)
