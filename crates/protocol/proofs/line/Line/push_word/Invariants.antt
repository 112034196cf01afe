-- The loop of `push_word`: the bytes so far stand at the end of the line. Assumes nothing.
use Rattle.std.proofs.Common.{take}
use Rattle.protocol.specs.Held.{Appends}
use Rattle.protocol.proofs.line.Line.push_word.Given as goal

abbrev pub invariant-loop-b : goal.invariant-loop-b
invariant-loop-b l = Appends l.initial.self (take l.b-index l.word) l.self
