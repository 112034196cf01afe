-- The loop of the guard's end: the first rules are restored. Assumes nothing.
use Rattle.std.proofs.Common.{◌≡◌, take}
use Rattle.console.specs.Marks.{restored}
use Rattle.console.proofs.guard.Guard.drop.Given as goal

abbrev pub invariant-loop-i : goal.invariant-loop-i
invariant-loop-i l = l.rules ≡ restored (take l.i l.muted) l.initial.rules
