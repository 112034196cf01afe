use Rattle.std.proofs.Common.{take, Ok}
use Rattle.elimination.specs.Table.{uppers, lowers, pairs}
use Rattle.elimination.specs.Lines.{line, lines}
use Rattle.elimination.specs.Appends.{Appended, held_lines}
use Rattle.elimination.proofs.PairLists.{with_each}
use Rattle.elimination.proofs.lent.Table.append_pairs.Given as goal

abbrev pub invariant-loop-i : goal.invariant-loop-i
invariant-loop-i l =
    Appended l.fader.index (pairs (uppers l.fader.index (take l.i (held_lines l.initial.self))) (lowers l.fader.index (held_lines l.initial.self))) l.initial.self (Ok tt) l.self

abbrev pub invariant-loop-j : goal.invariant-loop-j
invariant-loop-j l =
    Appended l.fader.index (with_each (line l.upper) (lowers l.fader.index (take l.j (lines (take l.held l.initial.self.cells.now))))) l.initial.self (Ok tt) l.self
