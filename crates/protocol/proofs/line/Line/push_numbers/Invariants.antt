-- The loop of `push_numbers`: the numbers so far stand at the end of the line. Assumes nothing.
use Rattle.std.proofs.Common.{◌*◌, take}
use Rattle.protocol.specs.Held.{AppendsFew}
use Rattle.protocol.specs.Lines.{items}
use Rattle.protocol.proofs.line.Line.push_numbers.Given as goal

abbrev pub invariant-loop-z : goal.invariant-loop-z
invariant-loop-z l = AppendsFew l.initial.self (items (take l.z-index l.numbers)) (12 * l.z-index) l.self
