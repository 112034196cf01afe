use Rattle.std.proofs.Common.{◌≡◌, map, take, drop}
use Rattle.elimination.specs.Table.{set_aside}
use Rattle.elimination.specs.Lines.{lines}
use Rattle.elimination.proofs.lent.Table.retire.Given as goal

abbrev pub invariant-loop-cell : goal.invariant-loop-cell
invariant-loop-cell l =
    (lines (take l.cell-index l.cell-items) ≡ map (set_aside l.fader.index) (lines (take l.cell-index l.initial.cell-items)))
    × (drop l.cell-index l.cell-items ≡ drop l.cell-index l.initial.cell-items)
