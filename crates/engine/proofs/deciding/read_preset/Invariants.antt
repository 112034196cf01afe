use Rattle.std.proofs.Common.{◌≡◌, length, take}
use Rattle.rows.specs.Limits.{faders}
use Rattle.engine.proofs.Readings.{numerators_in}
use Rattle.engine.proofs.deciding.read_preset.Given as goal

abbrev pub invariant-loop-k : goal.invariant-loop-k
invariant-loop-k g l = (length l.numerator-items ≡ faders) × (take l.k l.numerator-items ≡ take l.k (numerators_in (g.E.Engine.view l.engine).answer))
