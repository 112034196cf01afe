use Rattle.std.proofs.Common.{◌≡◌}
use Rattle.elimination.specs.Lines.{lines}
use Rattle.elimination.specs.Working.{all_set, at_rest}
use Rattle.elimination.specs.Limiting.{levels_of}
use Rattle.elimination.proofs.levels.all_set.Given as goal

abbrev pub invariant-loop-index : goal.invariant-loop-index
invariant-loop-index l = all_set l.index-counter (lines l.table) (levels_of l.levels) ≡ all_set l.count (lines l.table) at_rest
