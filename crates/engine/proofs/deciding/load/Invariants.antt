use Rattle.std.proofs.Common.{◌≡◌, ◌<◌, take, drop}
use Rattle.rows.specs.Rows.{constraints}
use Rattle.engine.specs.Deciding.{takes_refusal, rows_refusal, loaded}
use Rattle.engine.proofs.deciding.load.Given as goal

abbrev pub invariant-loop-row : goal.invariant-loop-row
invariant-loop-row g l =
    (0 < l.count)
    × (g.E.Engine.view l.engine ≡ loaded l.count (constraints (take l.row-index l.rows)))
    × (takes_refusal l.count l.row-index (constraints (drop l.row-index l.rows)) ≡ rows_refusal l.count (constraints l.rows))
