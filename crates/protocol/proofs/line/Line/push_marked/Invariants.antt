-- The loop of `push_marked`: the numbers so far stand at the end of the line. Assumes nothing.
use Rattle.std.proofs.Common.{◌*◌, take}
use Rattle.protocol.specs.Held.{AppendsFew}
use Rattle.protocol.specs.Lines.{items, marked}
use Rattle.protocol.proofs.line.Line.push_marked.Given as goal

abbrev pub invariant-loop-number : goal.invariant-loop-number
invariant-loop-number l = AppendsFew l.initial.self (items (marked 0 (take l.number l.marks))) (12 * l.number) l.self
