-- So far `best` is the first best of what stands before `i`. Assumes nothing.
use Rattle.std.specs.List.{IsFirstBest}
use Rattle.integers.specs.Choice.{beats}
use Rattle.integers.proofs.choice.first_best.Given as goal

abbrev pub invariant-loop-i : goal.invariant-loop-i
invariant-loop-i g l = IsFirstBest (beats g.T.Better.not_worse) l.items l.i l.best
