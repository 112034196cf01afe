use Rattle.std.proofs.Common.{◌≡◌, length, take}
use Rattle.rows.specs.Limits.{EachWithin}
use Rattle.engine.proofs.Readings.{weights_in}
use Rattle.engine.proofs.deciding.read_weights.Given as goal

abbrev pub invariant-loop-i : goal.invariant-loop-i
invariant-loop-i g l = (length l.value-items ≡ l.rows) × EachWithin l.value-items × (take l.i l.value-items ≡ take l.i (weights_in (g.E.Engine.view l.engine).answer))
