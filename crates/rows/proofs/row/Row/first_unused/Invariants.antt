use Rattle.std.proofs.Common.{◌≡◌, drop}
use Rattle.rows.specs.Rows.{first_unused}
use Rattle.rows.proofs.row.Row.first_unused.Given as goal

abbrev pub invariant-loop-fader : goal.invariant-loop-fader
invariant-loop-fader l = first_unused l.count l.fader (drop l.fader l.self.coefficients) ≡ first_unused l.count 0 l.self.coefficients
