-- The loop of `feed`: the engine holds the sounding ones of the rules so far. Assumes nothing.
use Rattle.std.proofs.Common.{◌≡◌, ◌≤◌, length, take}
use Rattle.engine.specs.Deciding.{loaded}
use Rattle.plans.specs.Rules.{rule_views}
use Rattle.plans.specs.Sounding.{sounding_rows}
use Rattle.console.proofs.asking.feed.Given as goal

abbrev pub invariant-loop-number : goal.invariant-loop-number
invariant-loop-number g l =
    (g.E.Engine.view l.engine ≡ loaded l.count (sounding_rows (rule_views (take l.number l.rules))))
    × (l.given ≡ length (sounding_rows (rule_views (take l.number l.rules))))
    × (l.given ≤ l.number)
