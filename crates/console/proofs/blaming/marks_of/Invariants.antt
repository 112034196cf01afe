-- The loop of `marks_of`: the marks of the rules so far are written. Assumes nothing.
use Rattle.std.proofs.Common.{◌≡◌, length}
use Rattle.rows.specs.Limits.{most_rows}
use Rattle.console.proofs.Marking.{MarkedTo, Blank}
use Rattle.console.proofs.blaming.marks_of.Given as goal

abbrev pub invariant-loop-number : goal.invariant-loop-number
invariant-loop-number l = (length l.marks ≡ most_rows) × Blank l.number l.marks × MarkedTo l.rules l.number l.marks
