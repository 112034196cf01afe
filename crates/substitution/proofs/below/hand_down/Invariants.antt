use Rattle.std.proofs.Common.{◌≡◌, length, map, take}
use Rattle.rows.specs.Rows.{constraints}
use Rattle.substitution.specs.Working.{handed_down}
use Rattle.substitution.specs.Holding.{kepts}
use Rattle.substitution.proofs.below.hand_down.Given as goal

abbrev pub invariant-loop-kept : goal.invariant-loop-kept
invariant-loop-kept l = (constraints l.rows ≡ map handed_down (kepts (take l.kept-index l.left))) × (length l.rows ≡ l.kept-index)
