use Rattle.std.proofs.Common.{◌≡◌, ◌-◌}
use Rattle.elimination.specs.Table.{all_eliminated}
use Rattle.elimination.specs.Appends.{held_lines}
use Rattle.elimination.proofs.lent.Table.eliminate_all.Given as goal

abbrev pub invariant-loop-index : goal.invariant-loop-index
invariant-loop-index l = all_eliminated l.count 0 (held_lines l.initial.self) ≡ all_eliminated (l.count - l.index) l.index (held_lines l.self)
