-- The loop of `walk`: what is left of the walk gives its whole outcome, and the guard still knows the rules as they stood. Assumes nothing.
use Rattle.std.proofs.Common.{◌≡◌, [], length}
use Rattle.rows.specs.Limits.{most_rows}
use Rattle.engine.specs.Verdicts.{Valid}
use Rattle.plans.specs.Rules.{rule_views}
use Rattle.plans.specs.Sounding.{sounding_rows}
use Rattle.console.specs.Marks.{restored}
use Rattle.console.specs.Walks.{numbered, walked}
use Rattle.console.proofs.Trying.{from_here}
use Rattle.console.proofs.blaming.walk.Given as goal

abbrev pub invariant-loop-number : goal.invariant-loop-number
invariant-loop-number g l =
    (length l.guard.rules.now ≡ l.len)
    × (length l.guard.muted ≡ most_rows)
    × (restored l.guard.muted l.guard.rules.now ≡ l.initial.guard.rules.now)
    × (l.guard.rules.ghost_name ≡ l.initial.guard.rules.ghost_name)
    × Valid l.count (sounding_rows (rule_views l.guard.rules.now))
    × (from_here (g.E.Engine.verdict l.count) l.guard.rules.now l.number ≡ walked (g.E.Engine.verdict l.count) [] (numbered 0 (rule_views l.initial.guard.rules.now)))
