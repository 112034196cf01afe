use Rattle.std.proofs.Common.{◌≡◌, drop}
use Rattle.plans.specs.Edits.{first_offending}
use Rattle.plans.proofs.row_of_rule.first_offending.Given as goal

abbrev pub invariant-loop-fader : goal.invariant-loop-fader
invariant-loop-fader l = first_offending l.count l.fader (drop l.fader l.coefficients) ≡ first_offending l.count 0 l.coefficients
