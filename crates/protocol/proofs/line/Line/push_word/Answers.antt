-- What `push_word` leaves to show. Assumes nothing.
use Rattle.std.proofs.Common.{arith}
use Rattle.std.proofs.lemmas.List.{take_more, take_all}
use Rattle.protocol.proofs.Appending.{appends_then}
use Rattle.protocol.proofs.line.Line.push_word.Goals as goal

pub loop-b-preserved : goal.loop-b-preserved
loop-b-preserved c = rw (take_more c.args.word.now c.loop-b.b-index 0 (omega arith)) (appends_then c.loop-b.invariant c.push.ensures)

pub returns : goal.returns
returns c = rw (take_all c.loop-b.b-index c.args.word.now (omega arith)) at c.loop-b.invariant
