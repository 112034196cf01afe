use Rattle.std.proofs.Common.{◌≡◌, ◌≤◌, drop}
use Rattle.elimination.specs.Tightest.{limits_by, found_limits}
use Rattle.elimination.proofs.Collecting.{onto}
use Rattle.elimination.proofs.setting.Setting.find_limits.Given as goal

abbrev pub invariant-loop-cell : goal.invariant-loop-cell
invariant-loop-cell g l =
    let s = g.S.Side in
    (l.found.count ≤ l.cell-index)
    × (onto (found_limits l.found) (limits_by s.limits s.turned l.self.fader.index l.self.levels.now (drop l.cell-index l.self.table.now)) ≡ limits_by s.limits s.turned l.self.fader.index l.self.levels.now l.self.table.now)
